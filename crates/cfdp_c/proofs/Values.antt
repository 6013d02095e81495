-- The machine values of an `Owner`. Assumes `Logic`.
use Rattle.std.proofs.Common.{◌≡◌, ℕ, List, [], ◌∷◌, ◌++◌, Option, Some, None, refl, subst}
use mathlib.Core.Bool.{true}
use seplogic.Ra.Ura.{Ura}
use mir.Raw.{raw as bare}
use mir.Val.{Val, vptr, vstruct, vcons, vnil, of_list}
use base.Logic.{never, fst∗}
use types.Logic.{Logic, sem}
use types.Kit.{Item, Goal, Seq, Step, step, ‵, ◌$◌, drop, fsplit, fjoin, fpick, fpack, rewrite, feq_i, feq_l}
use denote.RattleType.{RattleType, Valss}
use denote.Builtin.{RawPtr}
use denote.Memory.{lone}
use denote.RawPtr.{Ptr, block_ptr, null_ptr, ptr_val, in_a_block}
use denote.Steps.{nothing}
use denote.Struct.Struct.{within}
use denote.Struct.Owning.{shape}
use Rattle.std_alloc.specs.Box.Ownership.{box_owns}
use Rattle.cfdp_session.specs.contracts.session.Session.{the_row as State}
use Rattle.cfdp_session.specs.declared.session.Session.{Session}
use Rattle.cfdp_c.specs.Owned.{owned, heap_token, is_full}
use Rattle.cfdp_c.specs.contracts.owner.Owner as owner

abbrev pub Owner : RattleType
Owner = owner.the_row

abbrev pub word : Val → Val
word v = vstruct (vcons v vnil)

full_some : (o : Option Session) → is_full o ≡ true → (x : Session) × (o ≡ Some x)
full_some (Some x) e = (x, refl)
full_some None e = cc

module _ {M : Type 1} {𝓤 : Ura M} {𝓛 : Logic 𝓤} {K : Type 0} {Γ : List (Item 𝓤)} {G : Goal 𝓤 𝓛.H} where
  pub owner_out : K → (d : Owner.Denot) (vs : List Val) → is_full d.held ≡ true
      → ((b o : ℕ) (x : Session) → d.held ≡ Some x → d.at ≡ block_ptr b o → vs ≡ word (vptr b o) ∷ [] → Seq K 𝓛 (‵ (box_owns heap_token State (block_ptr b o) x) ∷ Γ) G)
      → Seq K 𝓛 (‵ (Owner.own_val d vs) ∷ Γ) G
  owner_out t d vs full k = let f = full_some d.held full in let x = f.0 in
      fsplit t $ fpick t (λ vss. fsplit t $ feq_l t (λ ev. fsplit t $ feq_l t (λ ep. drop t $ rewrite t 0 (λ (y : Option Session). ‵ (owned d.at y)) f.1 refl $
      in_a_block t d.at (λ p. box_owns heap_token State p x) (fst∗ 𝓤 (never 𝓤) (sem 𝓛 (heap_token (bare (lone State.mir)) null_ptr))) (λ b o e. k b o x f.1 e
      (subst (λ (p : Ptr). vs ≡ vstruct (of_list (ptr_val p ∷ [])) ∷ []) e
      (subst (λ (ps : List Val). vs ≡ vstruct (of_list (ps ++ [])) ∷ []) ep ev))))))

  pub owner_in : K → (b o : ℕ) (x : Session)
      → Step K 𝓛 (‵ (Owner.own_val (record { at = block_ptr b o; held = Some x }) (word (vptr b o) ∷ [])) ∷ Γ) G (‵ (box_owns heap_token State (block_ptr b o) x) ∷ Γ) G
  owner_in t b o x = step (λ s. let v : Val = word (vptr b o) in
      nothing t $ feq_i t (List Val) (vptr b o ∷ []) (vptr b o ∷ []) refl $ fjoin t $ feq_i t (List Val) (v ∷ []) (v ∷ []) refl $ fjoin t $
      fpack t (Valss (RawPtr ∷ [])) (within (shape owner.the_type) (block_ptr b o, tt) (v ∷ [])) (vptr b o ∷ [], tt) $ fjoin t $ s)

  pub owner_none : K → Step K 𝓛 (‵ (Owner.own_val (record { at = null_ptr; held = None }) (word (ptr_val null_ptr) ∷ [])) ∷ Γ) G Γ G
  owner_none t = step (λ s. let p : Val = ptr_val null_ptr in let v : Val = word p in
      nothing t $ nothing t $ feq_i t (List Val) (p ∷ []) (p ∷ []) refl $ fjoin t $ feq_i t (List Val) (v ∷ []) (v ∷ []) refl $ fjoin t $
      fpack t (Valss (RawPtr ∷ [])) (within (shape owner.the_type) (null_ptr, tt) (v ∷ [])) (p ∷ [], tt) $ fjoin t $ s)
