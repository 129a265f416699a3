-- Laws of operations carried out in turn, over any transport: which have their answers.
use Rattle.std.proofs.Common.{slice_index_or, map, ◌≡◌, ℕ, ◌+◌, ◌<◌, ◌≤◌, List, [], ◌∷◌, ◌++◌, length, take, drop, refl, sym, ap, subst, ◌∙◌, arith, append-nil, append_assoc, length-append}
use Rattle.std.proofs.Math.Seq.{drop-append_seam, take-append_seam}
use Rattle.std.proofs.lemmas.List.{drop_more}
use Rattle.apdu_core.specs.Shared.{Reply}
use Rattle.object_card.specs.OneStep.{Operation}
use Rattle.card_terminal.specs.declared.operation.Op.{Op}
use Rattle.card_terminal.specs.Operations.{operation_of}
use Rattle.card_terminal.specs.Running.{new_answers, carried_out}

new_are : (before given now : List Reply) → now ≡ before ++ given
    → new_answers before now ≡ given
new_are before given now is =
    ap (λ l. new_answers before l) is ∙ drop-append_seam before given

carried_are : {A : Type 0} (ops : List (Op A)) (done left : List Operation)
    (given : List Reply) → map operation_of ops ≡ done ++ left → length given ≡ length done
    → carried_out ops given ≡ done
carried_are ops done left given is same = ap (λ n. take n (map operation_of ops)) same
    ∙ ap (λ l. take (length done) l) is ∙ take-append_seam done left

-- The first `n` operations were carried out and gave `n` new answers. `Come` holds for them.
pub record HaveReplies {A : Type 0} (Come : List Operation → List Reply → Type 0)
    (ops : List (Op A)) (before : List Reply) (n : ℕ) (given : List Reply) : Type 0 where
  pub done : List Operation
  pub replies : List Reply
  pub given_is : given ≡ before ++ replies
  pub ops_are : map operation_of ops ≡ done ++ map operation_of (drop n ops)
  pub many : length replies ≡ length done
  pub many_done : length done ≡ n
  pub few : n ≤ length ops
  pub come : Come done replies

pub no_replies : {A : Type 0} (Come : List Operation → List Reply → Type 0) (ops : List (Op A))
    (before : List Reply) → Come [] [] → HaveReplies Come ops before 0 before
no_replies Come ops before come = record {
  done = [];
  replies = [];
  given_is = sym (append-nil before);
  ops_are = refl;
  many = refl;
  many_done = refl;
  few = omega arith;
  come = come;
}

-- one more operation was carried out
pub one_more_reply : {A : Type 0} (Come Then : List Operation → List Reply → Type 0)
    (ops : List (Op A)) (before : List Reply) (n : ℕ) (given given' : List Reply) (op : Op A)
    (r : Reply) → HaveReplies Come ops before n given → n < length ops
    → drop n ops ≡ op ∷ drop (n + 1) ops → given' ≡ given ++ r ∷ []
    → ((done : List Operation) (replies : List Reply) → Come done replies
    → Then (done ++ operation_of op ∷ []) (replies ++ r ∷ []))
    → HaveReplies Then ops before (n + 1) given'
one_more_reply Come Then ops before n given given' op r have lt next given_is more =
    let o = operation_of op in
    let rest = map operation_of (drop (n + 1) ops) in
    record {
      done = have.done ++ o ∷ [];
      replies = have.replies ++ r ∷ [];
      given_is = given_is ∙ ap (λ l. l ++ r ∷ []) have.given_is
          ∙ append_assoc before have.replies (r ∷ []);
      ops_are = have.ops_are ∙ ap (λ l. have.done ++ map operation_of l) next
          ∙ sym (append_assoc have.done (o ∷ []) rest);
      many = length-append have.replies (r ∷ []) ∙ ap (λ k. k + 1) have.many
          ∙ sym (length-append have.done (o ∷ []));
      many_done = length-append have.done (o ∷ []) ∙ ap (λ k. k + 1) have.many_done;
      few = omega (arith, lt);
      come = more have.done have.replies have.come;
    }

-- `Come` holds for the new answers
pub replies_come : {A : Type 0} (Come : List Operation → List Reply → Type 0) (ops : List (Op A))
    (before : List Reply) (n : ℕ) (given : List Reply) → HaveReplies Come ops before n given
    → Come (carried_out ops (new_answers before given)) (new_answers before given)
replies_come Come ops before n given have =
    let replies = new_are before have.replies given have.given_is in
    let same : carried_out ops (new_answers before given) ≡ have.done =
    ap (λ l. carried_out ops l) replies
    ∙ carried_are ops have.done (map operation_of (drop n ops)) have.replies have.ops_are
    have.many in
    subst (λ os. Come os (new_answers before given)) (sym same)
    (subst (λ rs. Come have.done rs) (sym replies) have.come)

-- the rest of a list is an item and those after it
pub next_item : {X : Type 0} (xs : List X) (n : ℕ) (x : X) → n < length xs
    → x ≡ slice_index_or xs n x → drop n xs ≡ x ∷ drop (n + 1) xs
next_item xs n x lt is = drop_more xs n x lt ∙ ap (λ z. z ∷ drop (n + 1) xs) (sym is)
