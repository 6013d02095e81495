-- `and` gives the history with the noted step in front. Assumes `Logic`.
use Rattle.std.proofs.Common.{List, [], ◌∷◌, ◌++◌, refl}
use Rattle.std.proofs.raw_atomic.Walks.{proved_at}
use mir.Val.{Val, vptr}
use prog.Wp.{WpFn}
use contract.Running.{tables}
use types.Kit.{‵, raw, ◌⊛◌, prop, ◌$◌, ◌∵◌, !, qed, move, keep, drop, split, fsplit, fjoin, feq_l, regoal, suffices, done}
use types.Part.{agg}
use types.Run.{enter, returns, no_more}
use types.ByLocal.{alloc_all, pass_all, free_all, look_at, sets}
use denote.Exit.{yes}
use denote.RattleType.{owns}
use denote.Builtin.{RefOf}
use denote.Signature.{plain, types_at, named_lft}
use denote.Steps.{nothing}
use denote.Triple.Entry.{alive}
use denote.Triple.Walked.{says, Stays, stay_dropped, walk_of, ends_at, Goes-dropped}
use Rattle.disk.proofs.Walks.{none_made}
use Rattle.disk.specs.Asked.{noted}
use Rattle.disk.specs.contracts.log.Log as Log
use Rattle.disk.specs.contracts.log.Note as Note
use Rattle.disk.specs.contracts.log.Log.and as f
use Rattle.disk.proofs.log.Log.and.Statement.{statement}
use Rattle.disk.proofs.log.Log.and.Code as code

abbrev stayed : Stays f.ended.signature.params f.ended.kept
stayed = (stay_dropped _ yes, (stay_dropped _ yes, tt))

pub and_spec : {M : Type 1} → statement M
and_spec 𝓤 𝓛 𝓜 𝓡 wired =
    let c = f.clauses 𝓛 𝓜.mem 𝓡.returns in let W = walk_of 𝓛 f.ended stayed c in let 𝓣 = tables 𝓤 𝓛.H 𝓜 𝓡 𝓡.env in
    proved_at 𝓛 f.ended stayed c 𝓜 𝓡
    (Goes-dropped 𝓛 3 (RefOf (0 ∷ []) tt (plain (λ _. Log.the_row)) (λ _. tt)) yes (λ κs x w. refl), (Goes-dropped 𝓛 3 (RefOf (1 ∷ []) tt (plain (λ κs. Note.the_row (named_lft 3 2 tt κs))) (λ _. tt)) yes (λ κs x w. refl), tt))
    f.Key.name code.function (code.unfolded 𝓤 𝓛.H 𝓜 𝓡 wired) (λ y are.
    let S = f.ended.signature in let a = y.0.3 in let vss = y.0.4 in
    let self : Val = vptr a.0.ref_ptr.0 a.0.ref_ptr.1 in
    let note : Val = vptr a.1.0.ref_ptr.0 a.1.0.ref_ptr.1 in
    let longer : (Log.the_row).Denot = record { steps = noted a.1.0.now ∷ a.0.now.steps } in
    let Runs = λ (args : List Val). WpFn 𝓤 𝓛.H 𝓣.C 𝓣.Λ code.function args (W.post y) in
    qed 𝓛 ((raw (alive 𝓛 S y.0.0 y.0.1) ⊛ ‵ (owns (types_at S.params y.0.0) a vss)) ∷ raw ((c y.0.0 a).requires y.1) ∷ []) ∵
    keep ! (0 ∷ []) $ split ! $ move ! (1 ∷ []) $
    fsplit ! $ fsplit ! $ feq_l ! (λ is_self. drop ! $ fsplit ! $ fsplit ! $ feq_l ! (λ is_note. drop ! $ drop ! $
    regoal ! (λ (us : List Val). prop (Runs (us ++ (vss.1.0 ++ [])))) is_self refl $
    regoal ! (λ (us : List Val). prop (Runs ((self ∷ []) ++ (us ++ [])))) is_note refl $
    enter ! 𝓣.C 𝓣.Λ code.function (self ∷ note ∷ []) (W.post y) $ alloc_all ! (λ l. pass_all ! refl ((tt, tt), ((tt, tt), tt)) $
    sets ! (agg ! (no_more !)) refl (tt, tt) $ nothing ! $ none_made ! $ fjoin ! $
    returns ! (look_at ! 0 refl) $ free_all ! refl $
    suffices ! _ (ends_at 𝓛 f.ended stayed c y _ longer (tt, (tt, tt)) (tt, (tt, tt))) $ says ! refl $
    nothing ! $ nothing ! $ fjoin ! $ nothing ! $ fjoin ! $ move ! (2 ∷ 0 ∷ 1 ∷ []) $ done !))))
