-- The three functions over a handle's pointer, for each kind of handle: `of` hides the type that it
-- points to, `into_loose` names it again, and `empty` writes null. Assumes `Logic`.
use Rattle.std.proofs.Common.{◌≡◌, ℕ, List, [], ◌∷◌, ◌++◌, refl, sym, subst}
use mathlib.Core.Bool.{true, ◌&&◌, false≢true}
use lib.Dec.{T, lit<}
use seplogic.Ra.Ura.{Ura}
use mir.Syntax.{Sym, Fn, Local, Body, Callee, ty_ptr, ty_struct, tcons, tnil, local, value_local, assign, place, rv_opd, copy, int, w64, aggregate, seq, return, field}
use mir.Val.{Val, vptr, vnull, has_ty, WT}
use base.Logic.{SProp, ent, emp, sep, id⊢}
use base.Fml.{Fml}
use prog.Wp.{WpFn, Closed}
use prog.Model.{Model}
use types.Logic.{Logic, sem}
use types.Kit.{‵, raw, ◌⊛◌, ◌$◌, ◌∵◌, !, qed, by, move, keep, split, fsplit, fjoin, suffices, use0, rewrite}
use types.Run.{stop, fld, lit, of_opd, no_more, and_then, returns, enter}
use types.ByLocal.{alloc_all, pass_all, free_all, look_at, get, get_in, sets}
use types.Part.{agg, sub, whole}
use contract.Monad.{fact, fact_i}
use contract.Running.{Running, tables}
use denote.Exit.{yes, Last}
use denote.RattleType.{RattleType, owns}
use denote.RawPtr.{block_ptr, null_ptr}
use denote.Param.{layout}
use denote.Signature.{types_at, plain}
use denote.Steps.{nothing, heard}
use denote.Triple.Clauses.{Ended, Clauses, closing}
use denote.Triple.Entry.{alive}
use denote.Triple.Spec.{Meets}
use denote.Triple.Walked.{Stays, Goes, stay_dropped, walk_of, Goes-dropped}
use Rattle.core.proofs.alloc.Calls.{Goes-blank, handle_tells}
use Rattle.core.proofs.cell.Inside.{Good}
use Rattle.std.proofs.raw_atomic.Walks.{proved_at, leaves}
use Rattle.std.specs.Prelude.{Option, Some, None, IsSome}
use Rattle.std.specs.contracts.impls.GlobalAllocator.TheImpl.{ghosts}
use Rattle.std_alloc.proofs.ResultValues.{and_tt}
use Rattle.card_c.specs.contracts.loose.Loose as loose
use Rattle.card_c.proofs.PointerValues.{both, al, both_good, block_in, block_out, none_in}
use Rattle.card_c.proofs.HeldKind.{Z, LZ, Kind}

some_of : (A : Type 0) (o : Option A) → IsSome o → (x : A) × (o ≡ Some x)
some_of A (Some x) is = (x, refl)
some_of A None is = absurd (false≢true is)

-- ---- the code
abbrev words_of : Sym → Local
words_of name = local (ty_struct name (tcons ty_ptr (tcons (layout Z) tnil))) value_local

abbrev code_of : List Local → Body → Fn
code_of locals body = record {
  lifetimes = 0;
  outlives = [];
  ty_params = [];
  givens = 0;
  params = 1;
  locals = locals;
  body = body;
}

-- one struct of a pointer and an allocator is taken apart, and another is made of them
abbrev pub passing : Sym → Sym → Fn
passing from to = code_of (words_of to ∷ words_of from ∷ local ty_ptr value_local
    ∷ local (layout Z) value_local ∷ local ty_ptr value_local ∷ [])
    (seq (assign (place 2 []) (rv_opd (copy (place 1 (field 0 ∷ [])))))
    (seq (assign (place 3 []) (rv_opd (copy (place 1 (field 1 ∷ [])))))
    (seq (assign (place 4 []) (rv_opd (copy (place 2 []))))
    (seq (assign (place 0 []) (aggregate (copy (place 4 []) ∷ copy (place 3 []) ∷ []))) return))))

-- null is put beside an allocator
abbrev pub nulling : Sym → Fn
nulling to = code_of (words_of to ∷ local (layout Z) value_local ∷ [])
    (seq (assign (place 0 []) (aggregate (int w64 0 ∷ copy (place 1 []) ∷ []))) return)

-- ---- a contract of one parameter, which is used up
abbrev pub Turns : RattleType → RattleType → Ended
Turns P Q = record {
  signature = record {
    lifetimes = 0;
    outlives = [];
    params = plain (λ κs. P) ∷ [];
    result = plain (λ κs. Q);
  };
  kept = (yes, tt);
}

module _ {M : Type 1} (𝓤 : Ura M) (𝓛 : Logic 𝓤) (𝓜 : Model 𝓤 𝓛.H) (𝓡 : Running 𝓤 𝓛.H 𝓜) where
  abbrev Runs : Fn → List Val → (Val → SProp 𝓤) → SProp 𝓤
  Runs fn ws Post = let 𝓣 = tables 𝓤 𝓛.H 𝓜 𝓡 𝓡.env in WpFn 𝓤 𝓛.H 𝓣.C 𝓣.Λ fn ws Post

  abbrev Is : Callee → Fn → Type 2
  Is k fn = let 𝓣 = tables 𝓤 𝓛.H 𝓜 𝓡 𝓡.env in Closed 𝓤 𝓛.H 𝓣.C 𝓣.Λ k fn

  passes : (from to : Sym) (b o : ℕ) (h : Val) → Good (layout Z) h
      → (Post : Val → SProp 𝓤) (P : SProp 𝓤) → ent 𝓤 P (Post (both (vptr b o) h))
      → ent 𝓤 P (Runs (passing from to) (both (vptr b o) h ∷ []) Post)
  passes from to b o h fits Post P ends =
      let 𝓣 = tables 𝓤 𝓛.H 𝓜 𝓡 𝓡.env in let w : Val = both (vptr b o) h in
      let typed = both_good Z LZ ghosts b o h fits in
      qed 𝓛 (raw P ∷ []) ∵ enter ! 𝓣.C 𝓣.Λ (passing from to) (w ∷ []) Post $ alloc_all !
      (λ l. pass_all ! refl (typed, tt) $
      sets ! (of_opd ! (get_in ! (fld ! refl (stop !)) (sub ! 0 refl (whole !)))) refl (tt, tt) $
      sets ! (of_opd ! (get_in ! (fld ! refl (stop !)) (sub ! 1 refl (whole !)))) refl fits $
      sets ! (of_opd ! (get ! refl)) refl (tt, tt) $
      sets ! (agg ! (and_then ! (get ! refl) (and_then ! (get ! refl) (no_more !)))) refl typed $
      returns ! (look_at ! 0 refl) $ free_all ! refl $ by ! ends)

  nulls : (to : Sym) (h : Val) → Good (layout Z) h → (Post : Val → SProp 𝓤) (P : SProp 𝓤)
      → ent 𝓤 P (Post (both vnull h)) → ent 𝓤 P (Runs (nulling to) (h ∷ []) Post)
  nulls to h fits Post P ends = let 𝓣 = tables 𝓤 𝓛.H 𝓜 𝓡 𝓡.env in
      let typed : T (has_ty (layout Z) h && true) × WT (both vnull h) =
      (and_tt (has_ty (layout Z) h) fits.0, (record { fits = lit< tt }, (fits.1, tt))) in
      qed 𝓛 (raw P ∷ []) ∵ enter ! 𝓣.C 𝓣.Λ (nulling to) (h ∷ []) Post $ alloc_all !
      (λ l. pass_all ! refl (fits, tt) $
      sets ! (agg ! (and_then ! (lit ! tt) (and_then ! (get ! refl) (no_more !)))) refl typed $
      returns ! (look_at ! 0 refl) $ free_all ! refl $ by ! ends)

  -- one machine value stands alone among those of a call
  alone : (fn : Fn) (Post : Val → SProp 𝓤) (w : Val) (vs : List Val) → vs ≡ w ∷ []
      → ent 𝓤 (Runs fn (w ∷ []) Post) (Runs fn (vs ++ []) Post)
  alone fn Post w vs e = subst (λ (us : List Val). ent 𝓤 (Runs fn (w ∷ []) Post) (Runs fn us Post))
      (sym (λ i. e i ++ [])) (id⊢ 𝓤 (Runs fn (w ∷ []) Post))

  module _ (P Q : RattleType) (Needs : P.Denot → SProp 𝓤) (Says : P.Denot → Q.Denot → Type 0) where
    abbrev promises : Clauses 𝓤 (Turns P Q)
    promises κs a = record {
      ghost = Unit {0};
      requires = λ _. Needs a.0;
      ensures = λ _ r _. fact 𝓤 (Says a.0 r);
    }

    abbrev Met : Callee → Type 1
    Met k = Meets 𝓛 (Turns P Q).signature (𝓡.run (𝓡.env k)) (closing 𝓛 (Turns P Q) promises)

    -- Code meets the contract if it runs from a value of P, with what it needs, to one of Q with
    -- this property, and keeps everything else.
    turned : ((d : P.Denot) → Last (P.exit yes) d)
        → Goes 𝓛 0 (plain (λ _. P)) yes (stay_dropped (plain (λ _. P)) yes)
        → (k : Callee) (fn : Fn) → Is k fn
        → ((a : P.Denot) (vs : List Val) (Post : Val → SProp 𝓤) (T : SProp 𝓤)
        → ((w : Val) (r : Q.Denot) → Says a r
        → ent 𝓤 (sep 𝓤 (sem 𝓛 (Q.own_val r (w ∷ []))) T) (Post w))
        → ent 𝓤 (sep 𝓤 (sem 𝓛 (P.own_val a vs)) (sep 𝓤 (Needs a) T)) (Runs fn (vs ++ []) Post))
        → Met k
    turned last goes k fn is run = let En = Turns P Q in let c = promises in
        let hs : Stays En.signature.params En.kept = (stay_dropped (plain (λ _. P)) yes, tt) in
        proved_at 𝓛 En hs c 𝓜 𝓡 (goes, tt) k fn is (λ z are.
        let κs = z.0.0 in let a = z.0.3.0 in let lives = alive 𝓛 En.signature κs z.0.1 in
        qed 𝓛 ((raw lives ⊛ ‵ (owns (types_at En.signature.params κs) z.0.3 z.0.4))
        ∷ raw (Needs a) ∷ []) ∵ split ! $ move ! (1 ∷ []) $ fsplit ! $ keep ! (0 ∷ 3 ∷ 2 ∷ []) $
        by ! (run a z.0.4.0 ((walk_of 𝓛 En hs c).post z) lives (λ w r said.
        qed 𝓛 (‵ (Q.own_val r (w ∷ [])) ∷ raw lives ∷ []) ∵
        use0 𝓛 (raw (fact 𝓤 (Says a r))) (fact_i 𝓤 (Says a r) (emp 𝓤) said) $
        nothing ! $ nothing ! $ fjoin ! $ keep ! (3 ∷ 0 ∷ 2 ∷ 1 ∷ []) $
        by ! (leaves 𝓛 En hs c z w r (last a, tt) (tt, tt)))))

  module _ (K : Kind) where
    abbrev R : RattleType
    R = K.content

    abbrev Taken : RattleType
    Taken = loose.the_row R Z ghosts

    abbrev taken : Sym
    taken = (loose.the_type R Z ghosts).name

    pub hides : (k : Callee) → Is k (passing taken K.name)
        → Met Taken K.row (λ _. emp 𝓤) (λ v r. K.value r ≡ Some v.value) k
    hides k is = turned Taken K.row (λ _. emp 𝓤) (λ v r. K.value r ≡ Some v.value) (λ d. tt)
        (Goes-blank 𝓛 0 (plain (λ _. Taken)) yes (λ κs x f. tt)) k (passing taken K.name) is
        (λ v vs Post T ends. qed 𝓛 (‵ (Taken.own_val v vs) ∷ raw (emp 𝓤) ∷ raw T ∷ []) ∵
        block_out Z LZ ghosts taken (R ∷ Z ∷ []) R ! v.at v.alloc v.value vs
        (λ b o h e ws fits. let w : Val = both (vptr b o) h in
        suffices ! (Runs (passing taken K.name) (w ∷ []) Post)
        (alone (passing taken K.name) Post w vs ws) $
        block_in Z LZ ghosts K.name [] R ! b o h v.alloc v.value $
        rewrite ! 0 (λ (f : Fml). ‵ f)
        (K.owns_some (block_ptr b o) v.alloc v.value (w ∷ [])) refl $ keep ! (0 ∷ 2 ∷ []) $
        by ! (passes taken K.name b o h fits Post _ (ends w
        (K.make (block_ptr b o) v.alloc (Some v.value))
        (K.valued (block_ptr b o) v.alloc (Some v.value))))))

    pub shows : (k : Callee) → Is k (passing K.name taken)
        → Met K.row Taken (λ v. fact 𝓤 (IsSome (K.value v))) (λ v r. Some r.value ≡ K.value v) k
    shows k is = turned K.row Taken (λ v. fact 𝓤 (IsSome (K.value v)))
        (λ v r. Some r.value ≡ K.value v) K.last
        (Goes-blank 𝓛 0 (plain (λ _. K.row)) yes (λ κs x f. K.none_left x f)) k
        (passing K.name taken) is (λ v vs Post T ends.
        qed 𝓛 (‵ (K.row.own_val v vs) ∷ raw (fact 𝓤 (IsSome (K.value v))) ∷ raw T ∷ []) ∵
        move ! (1 ∷ []) $ heard ! (IsSome (K.value v)) (λ is_some.
        let some = some_of R.Denot (K.value v) is_some in let x = some.0 in
        let made = K.as_made v in let p = made.0 in let a = made.1.0 in
        rewrite ! 0 (λ (d : K.row.Denot). ‵ (K.row.own_val d vs)) made.1.1 refl $
        rewrite ! 0 (λ (y : Option R.Denot). ‵ (K.row.own_val (K.make p a y) vs)) some.1 refl $
        rewrite ! 0 (λ (f : Fml). ‵ f) (sym (K.owns_some p a x vs)) refl $
        block_out Z LZ ghosts K.name [] R ! p a x vs
        (λ b o h e ws fits. let w : Val = both (vptr b o) h in
        suffices ! (Runs (passing K.name taken) (w ∷ []) Post)
        (alone (passing K.name taken) Post w vs ws) $
        block_in Z LZ ghosts taken (R ∷ Z ∷ []) R ! b o h a x $
        by ! (passes K.name taken b o h fits Post _ (ends w
        (record { at = block_ptr b o; alloc = a; value = x }) (sym some.1))))))

    pub empties : (k : Callee) → Is k (nulling K.name)
        → Met Z K.row (λ _. emp 𝓤) (λ a r. K.value r ≡ None) k
    empties k is = turned Z K.row (λ _. emp 𝓤) (λ a r. K.value r ≡ None) (λ d. tt)
        (Goes-dropped 𝓛 0 (plain (λ _. Z)) yes (λ κs x f. refl)) k (nulling K.name) is
        (λ a vs Post T ends. qed 𝓛 (‵ (Z.own_val a vs) ∷ raw (emp 𝓤) ∷ raw T ∷ []) ∵
        handle_tells (al Z LZ ghosts) ! a vs (λ h ws fits.
        suffices ! (Runs (nulling K.name) (h ∷ []) Post) (alone (nulling K.name) Post h vs ws) $
        none_in Z LZ ghosts K.name [] R ! h a $ rewrite ! 0 (λ (f : Fml). ‵ f)
        (K.owns_none a (both vnull h ∷ [])) refl $ keep ! (0 ∷ 2 ∷ []) $
        by ! (nulls K.name h fits Post _ (ends (both vnull h) (K.make null_ptr a None)
        (K.valued null_ptr a None)))))
