use Rattle.std.proofs.Common.{refl, sym, subst, string_bytes}
use Rattle.outbox_file.specs.Books.{BookValue}
use Rattle.outbox_file.specs.Files.{IsPlainBook, IsStored}
use Rattle.outbox_file.proofs.FileFacts.{holds_then, notes_then, plain_then, said_then, stored_then}
use Rattle.outbox_file.proofs.file.StoredOutbox.note.Goals as goal

pub invariant_of-self : goal.invariant_of-self
invariant_of-self g c = (
  subst IsPlainBook (sym c.reserve.ensures.same) c.self.invariant.0,
  λ sound. subst (λ (b : BookValue). IsStored (string_bytes c.self.inside.path) b (g.D.Disk.done c.self.inside.disk)) (sym c.reserve.ensures.same) (c.self.invariant.1 sound),
)

pub invariant_of-self-2 : goal.invariant_of-self-2
invariant_of-self-2 g c = (
  plain_then _ _ _ _ _ c.args.line c.reserve.ensures.same c.as_str.ensures.value c.note.ensures c.requires c.self.invariant.0,
  λ _. stored_then _ _ _ _ _ c.args.line c.reserve.ensures.same c.as_str.ensures.value c.note.ensures (g.D.Disk.done c.self.inside.disk) _ c.in_ok-self-inside.ensures.stored,
)

pub returns : goal.returns
returns g c =
    rw (← c.self.view_is) (record {
      said = said_then _ _ _ _ _ c.args.line c.reserve.ensures.same c.as_str.ensures.value c.note.ensures;
      holds = holds_then _ _ _ _ _ c.args.line c.reserve.ensures.same c.as_str.ensures.value c.note.ensures (g.D.Disk.done c.self.inside.disk) _ c.in_ok-self-inside.ensures.stored;
      not = tt;
      notes = notes_then _ _ _ _ _ c.args.line c.reserve.ensures.same c.as_str.ensures.value c.note.ensures _ _ c.put_line.ensures.notes;
      path = refl;
    })
