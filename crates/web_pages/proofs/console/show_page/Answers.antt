use Rattle.web_pages.proofs.console.show_page.Goals as goal

-- src/console.rt
pub returns : goal.returns
returns c = c.show_parts.ensures
