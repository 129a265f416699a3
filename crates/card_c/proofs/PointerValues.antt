-- The machine values of a struct of a pointer and an allocator, as a `Loose` and each handle are.
-- Assumes `Logic`.
use Rattle.std.proofs.Common.{◌≡◌, ℕ, List, [], ◌∷◌, ◌++◌, refl, subst}
use mathlib.Core.Bool.{true, ◌&&◌}
use lib.Dec.{T}
use seplogic.Ra.Ura.{Ura}
use mir.Syntax.{Sym, impl, tnil, dnil}
use mir.Raw.{raw as bare}
use mir.Val.{Val, vptr, vnull, vstruct, vcons, vnil, of_list, has_ty, WT}
use base.Fml.{Fml, ftrue, fsep}
use base.Logic.{never, fst∗}
use types.Logic.{Logic, sem}
use types.Kit.{Item, Goal, Seq, Step, step, ‵, ◌$◌, move, drop, fsplit, fjoin, fpick, fpack, feq_i, feq_l}
use denote.RattleType.{RattleType, Valss}
use denote.Builtin.{RawPtr}
use denote.Memory.{lone}
use denote.RawPtr.{Ptr, block_ptr, null_ptr, ptr_val, in_a_block}
use denote.Steps.{nothing}
use denote.Param.{layout}
use denote.Param.Laws.{Laws}
use denote.Struct.Struct.{Shape, Struct, within}
use Rattle.core.specs.declared.alloc.Allocator.{Ghosts}
use Rattle.core.proofs.alloc.Calls.{Al, handle_tells}
use Rattle.core.proofs.cell.Inside.{Good}
use Rattle.std_alloc.specs.Box.Ownership.{box_owns}
use Rattle.std_alloc.proofs.ResultValues.{and_tt}

abbrev pub both : Val → Val → Val
both v w = vstruct (vcons v (vcons w vnil))

module _ (Z : RattleType) (L : Laws Z) (g : Ghosts Z.Denot) where
  abbrev pub al : Al
  al = record { row = Z; laws = L; g = g; d = impl [] tnil dnil; drops = impl [] tnil dnil }

  pub both_good : (b o : ℕ) (h : Val) → Good (layout Z) h → T (has_ty (layout Z) h && true)
      × WT (both (vptr b o) h)
  both_good b o h fits = (and_tt (has_ty (layout Z) h) fits.0, (tt, (fits.1, tt)))

  module _ (name : Sym) (types : List RattleType) (R : RattleType) where
    abbrev words : Shape
    words = record { name = name; args = []; types = types; fields = RawPtr ∷ Z ∷ [] }

    -- what the struct's fields own, and beside it the block that it points to
    abbrev pub block_owned : Ptr → Z.Denot → R.Denot → List Val → Fml
    block_owned p a x vs =
        fsep ((Struct words).own_val (p, (a, tt)) vs) (box_owns (g.dealloc_token a) R p x)

    -- or nothing
    abbrev pub none_owned : Z.Denot → List Val → Fml
    none_owned a vs = fsep ((Struct words).own_val (null_ptr, (a, tt)) vs) ftrue

    module _ {M : Type 1} {𝓤 : Ura M} {𝓛 : Logic 𝓤} {K : Type 0} {Γ : List (Item 𝓤)}
        {G : Goal 𝓤 𝓛.H} where
      pub block_out : K → (p : Ptr) (a : Z.Denot) (x : R.Denot) (vs : List Val)
          → ((b o : ℕ) (h : Val) → p ≡ block_ptr b o → vs ≡ both (vptr b o) h ∷ []
          → Good (layout Z) h → Seq K 𝓛 (‵ (box_owns (g.dealloc_token a) R (block_ptr b o) x)
          ∷ ‵ (Z.own_val a (h ∷ [])) ∷ Γ) G)
          → Seq K 𝓛 (‵ (block_owned p a x vs) ∷ Γ) G
      block_out t p a x vs k =
          fsplit t $ fpick t (λ vss. fsplit t $ feq_l t
          (λ ev. fsplit t $ feq_l t (λ ep. fsplit t
          $ handle_tells al t a vss.1.0
          (λ h ea fits. move t (1 ∷ []) $ drop t $ move t (1 ∷ []) $
          in_a_block t p (λ r. box_owns (g.dealloc_token a) R r x)
          (fst∗ 𝓤 (never 𝓤) (sem 𝓛 (g.dealloc_token a (bare (lone R.mir)) null_ptr)))
          (λ b o e. k b o h e
          (subst (λ (r : Ptr). vs ≡ vstruct (of_list (ptr_val r ∷ h ∷ [])) ∷ []) e
          (subst (λ (ws : List Val). vs ≡ vstruct (of_list (ptr_val p ∷ (ws ++ []))) ∷ []) ea
          (subst (λ (ps : List Val). vs ≡ vstruct (of_list (ps ++ (vss.1.0 ++ []))) ∷ []) ep
          ev))) fits)))))

      words_in : K → (p : Ptr) (h : Val) (a : Z.Denot)
          → Step K 𝓛 (‵ ((Struct words).own_val (p, (a, tt)) (both (ptr_val p) h ∷ [])) ∷ Γ) G
          (‵ (Z.own_val a (h ∷ [])) ∷ Γ) G
      words_in t p h a = step (λ s. let w : Val = both (ptr_val p) h in
          nothing t $ move t (1 ∷ 0 ∷ []) $ fjoin t $ feq_i t (List Val) (ptr_val p ∷ [])
          (ptr_val p ∷ []) refl $ fjoin t $ feq_i t (List Val) (w ∷ []) (w ∷ []) refl $ fjoin t $
          fpack t (Valss (RawPtr ∷ Z ∷ [])) (within words (p, (a, tt)) (w ∷ []))
          (ptr_val p ∷ [], (h ∷ [], tt)) $ s)

    module _ {M : Type 1} {𝓤 : Ura M} {𝓛 : Logic 𝓤} {K : Type 0} {Γ : List (Item 𝓤)}
        {G : Goal 𝓤 𝓛.H} where
      pub block_in : K → (b o : ℕ) (h : Val) (a : Z.Denot) (x : R.Denot)
          → Step K 𝓛 (‵ (block_owned (block_ptr b o) a x (both (vptr b o) h ∷ [])) ∷ Γ) G
          (‵ (box_owns (g.dealloc_token a) R (block_ptr b o) x) ∷ ‵ (Z.own_val a (h ∷ [])) ∷ Γ) G
      block_in t b o h a x = step (λ s. move t (1 ∷ []) $ words_in t (block_ptr b o) h a $
          fjoin t $ s)

      pub none_in : K → (h : Val) (a : Z.Denot)
          → Step K 𝓛 (‵ (none_owned a (both vnull h ∷ [])) ∷ Γ) G (‵ (Z.own_val a (h ∷ [])) ∷ Γ) G
      none_in t h a = step (λ s. words_in t null_ptr h a $ nothing t $ move t (1 ∷ []) $
          fjoin t $ s)
