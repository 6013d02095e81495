-- Meaning. The page.
use Rattle.std.specs.Prelude.{ℕ, List, ◌++◌}
use Rattle.web_pages.specs.declared.page.commands.TheConstants.{COMMANDS}
use Rattle.web_pages.specs.declared.page.head.TheConstants.{HEAD}
use Rattle.web_pages.specs.declared.page.live.TheConstants.{LIVE}
use Rattle.web_pages.specs.declared.page.passes.TheConstants.{PASSES}
use Rattle.web_pages.specs.declared.page.tables.TheConstants.{TABLES}

-- the page: what stands where, and then its script, part after part
abbrev pub whole_page : List ℕ
whole_page = (((HEAD.now ++ TABLES.now) ++ LIVE.now) ++ PASSES.now) ++ COMMANDS.now
