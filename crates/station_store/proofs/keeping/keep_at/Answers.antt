use Rattle.std.proofs.Common.{Some, None, IfOk, OnErr, sym, subst, string_bytes}
use Rattle.disk.specs.Promise.{NoPath, NothingNew}
use Rattle.disk.proofs.Reach.{reached_later}
use Rattle.whole_files.proofs.Chains.{on_err}
use Rattle.station_store.specs.declared.settings.Clash.{Clash}
use Rattle.station_store.specs.declared.settings.Clash.TheVariants.{Replace, Keep}
use Rattle.station_store.specs.Paths.{Stores}
use Rattle.station_store.proofs.Reaching.{both}
use Rattle.station_store.proofs.Storing.{nothing_stored, then_kept, then_not_kept}
use Rattle.station_store.proofs.keeping.keep_at.Goals as goal

pub returns-in_err-reach-clause-not_kept : goal.returns-in_err-reach-clause-not_kept
returns-in_err-reach-clause-not_kept g c = on_err _ _ (nothing_stored _ _ _ _ _ c.reach.ensures.same)

pub returns-in_err-refuse_folder-clause-not_kept : goal.returns-in_err-refuse_folder-clause-not_kept
returns-in_err-refuse_folder-clause-not_kept g c = on_err _ _ (nothing_stored _ _ _ _ _ (both _ _ _ c.reach.ensures.same c.refuse_folder.ensures))

pub replace-requires : goal.replace-requires
replace-requires g c = reached_later NoPath NothingNew _ _ c.refuse_folder.ensures _ c.in_ok-reach.ensures.ok

pub keep-requires : goal.keep-requires
keep-requires g c = reached_later NoPath NothingNew _ _ c.refuse_folder.ensures _ c.in_ok-reach.ensures.ok

pub returns-in-Replace-clause-kept : goal.returns-in-Replace-clause-kept
returns-in-Replace-clause-kept g c =
    subst (λ (clash : Clash). IfOk c.replace.result (λ place. Stores clash c.args.file.now.path.now c.args.file.now.octets.now (Some (string_bytes place)) (g.D.Disk.done c.args.disk.now) (g.D.Disk.done c.replace.new.disk))) (sym c.in-Replace.is)
    (then_kept Replace _ _ _ _ _ (both _ _ _ c.reach.ensures.same c.refuse_folder.ensures) string_bytes c.replace.result c.replace.ensures.kept)

pub returns-in-Replace-clause-not_kept : goal.returns-in-Replace-clause-not_kept
returns-in-Replace-clause-not_kept g c =
    subst (λ (clash : Clash). OnErr c.replace.result (Stores clash c.args.file.now.path.now c.args.file.now.octets.now None (g.D.Disk.done c.args.disk.now) (g.D.Disk.done c.replace.new.disk))) (sym c.in-Replace.is)
    (then_not_kept Replace _ _ _ _ _ (both _ _ _ c.reach.ensures.same c.refuse_folder.ensures) c.replace.result c.replace.ensures.not_kept)

pub returns-in-Keep-clause-kept : goal.returns-in-Keep-clause-kept
returns-in-Keep-clause-kept g c =
    subst (λ (clash : Clash). IfOk c.keep.result (λ place. Stores clash c.args.file.now.path.now c.args.file.now.octets.now (Some (string_bytes place)) (g.D.Disk.done c.args.disk.now) (g.D.Disk.done c.keep.new.disk))) (sym c.in-Keep.is)
    (then_kept Keep _ _ _ _ _ (both _ _ _ c.reach.ensures.same c.refuse_folder.ensures) string_bytes c.keep.result c.keep.ensures.kept)

pub returns-in-Keep-clause-not_kept : goal.returns-in-Keep-clause-not_kept
returns-in-Keep-clause-not_kept g c =
    subst (λ (clash : Clash). OnErr c.keep.result (Stores clash c.args.file.now.path.now c.args.file.now.octets.now None (g.D.Disk.done c.args.disk.now) (g.D.Disk.done c.keep.new.disk))) (sym c.in-Keep.is)
    (then_not_kept Keep _ _ _ _ _ (both _ _ _ c.reach.ensures.same c.refuse_folder.ensures) c.keep.result c.keep.ensures.not_kept)
