-- The pairs of an operation settle its next command, and whether it has ended.
use Rattle.std.proofs.Common.{◌≡◌, List, [], ◌∷◌, ◌++◌, inl, inr, sym, ◌∙◌, ap, append-nil, append_assoc, Some}
use Rattle.apdu_core.specs.StatusWord.{ok}
use Rattle.apdu_core.specs.CommandBytes.{Command}
use Rattle.apdu_core.specs.Shared.{Reply}
use Rattle.exchange_core.specs.Gathered.{wanted_by}
use Rattle.apdu_terminal.specs.declared.stage.Stage.TheVariants.{Done}
use Rattle.apdu_terminal.specs.Apdus.{Pair}
use Rattle.apdu_terminal.specs.ApduTalk.{AreApdusOf, talk_pairs}
use Rattle.apdu_terminal.specs.ApduSide.{ApduExchangeOf, due_of, ComesTo}
use Rattle.apdu_terminal.specs.ApduOperations.{ApduOperationOf, AreApdusUpTo, HaveRoom, LeadsTo}
use Rattle.apdu_terminal.proofs.LawLemmas.{IsWithin, due_within, one_exchange, over_within, within}
use Rattle.apdu_terminal.proofs.OperationLemmas.{none_left}

-- ---- the place of an operation in whole exchanges

-- before the next pair of a whole one, or at its end
abbrev Stands : ApduExchangeOf → List Pair → Reply → Type 0
Stands ex rest answer = IsWithin ex rest [] answer.status answer.content

none_taken : (commands : List Command) (gone : List (List Pair)) (c : Command)
    (left : List Command) → commands ≡ [] → AreApdusUpTo commands gone (c ∷ left) → ⊥
none_taken commands [] c left none taken = let e : c ∷ left ≡ [] = taken ∙ none in absurd (cc)
none_taken [] (g ∷ gone) c left none taken = taken
none_taken (d ∷ commands) (g ∷ gone) c left none taken = absurd (cc)

-- in the exchange of the current command
in_current : (c : Command) (left : List Command) (here rest : List Pair) (o : ApduOperationOf)
    (us : List (List Pair)) (answer : Reply) → ComesTo c (wanted_by c.le) here o.exchange
    → (o.exchange.stage ≡ Done ok → left ≡ []) → AreApdusOf (c ∷ left) us answer
    → HaveRoom o.exchange.gather.limit us → talk_pairs us ≡ here ++ rest
    → Stands o.exchange rest answer
in_current c left here rest o [] answer led settled are room e = absurd are
in_current c left here rest o (u ∷ []) answer led settled are room e =
    within c (wanted_by c.le) here o.exchange u [] rest answer.content answer.status led are.0
    room.0 e
in_current c left here rest o (u ∷ n ∷ us) answer led settled are room e =
    elim (within c (wanted_by c.le) here o.exchange u (talk_pairs (n ∷ us)) rest are.0 ok led are.1
    room.0 e) [
      | inl at ↦ inl at
      | inr end ↦ absurd (some_left left n us answer are.2 (settled end.1))
    ]
  where
    some_left : (left : List Command) (n : List Pair) (us : List (List Pair)) (answer : Reply)
        → AreApdusOf left (n ∷ us) answer → left ≡ [] → ⊥
    some_left [] n us answer are none = are
    some_left (d ∷ left) n us answer are none = absurd (cc)

regroup : (g a b d : List Pair) → ((g ++ a) ++ b) ++ d ≡ g ++ ((a ++ b) ++ d)
regroup g a b d = ap (λ x. x ++ d) (append_assoc g a b) ∙ append_assoc g (a ++ b) d

from_front : (commands : List Command) (gone : List (List Pair)) (c : Command)
    (left : List Command) (here rest : List Pair) (o : ApduOperationOf)
    (us : List (List Pair)) (answer : Reply) → ComesTo c (wanted_by c.le) here o.exchange
    → (o.exchange.stage ≡ Done ok → left ≡ []) → AreApdusUpTo commands gone (c ∷ left)
    → AreApdusOf commands us answer → HaveRoom o.exchange.gather.limit us
    → talk_pairs us ≡ (talk_pairs gone ++ here) ++ rest → Stands o.exchange rest answer
from_front commands [] c left here rest o us answer led settled taken are room e =
    in_current c left here rest o us answer led settled
    (rw taken are) room e
from_front [] (g ∷ gone) c left here rest o us answer led settled taken are room e =
    absurd taken
from_front (d ∷ commands) (g ∷ gone) c left here rest o [] answer led settled taken are room e =
    absurd are
from_front (d ∷ commands) (g ∷ gone) c left here rest o (u ∷ []) answer led settled taken are room
    e =
    let one = one_exchange d (wanted_by d.le) u g [] ((talk_pairs gone ++ here) ++ rest)
    answer.content taken.0 answer.status ok are.0 taken.1
    (e ∙ regroup g (talk_pairs gone) here rest) in
    elim are.1 [
      | inl none ↦ absurd (none_taken commands gone c left none taken.2)
      | inr other ↦ absurd (other one.status)
    ]
from_front (d ∷ commands) (g ∷ gone) c left here rest o (u ∷ n ∷ us) answer led settled taken are
    room e =
    let one = one_exchange d (wanted_by d.le) u g (talk_pairs (n ∷ us))
    ((talk_pairs gone ++ here) ++ rest) are.0 taken.0 ok ok are.1 taken.1
    (e ∙ regroup g (talk_pairs gone) here rest) in
    from_front commands gone c left here rest o (n ∷ us) answer led settled taken.2 are.2 room.1
    one.rest

stands : (commands : List Command) (came rest : List Pair) (o : ApduOperationOf)
    (exchanges : List (List Pair)) (answer : Reply) → LeadsTo commands came (Some o)
    → AreApdusOf commands exchanges answer → HaveRoom o.exchange.gather.limit exchanges
    → talk_pairs exchanges ≡ came ++ rest → Stands o.exchange rest answer
stands commands came rest o exchanges answer (l, settled) are room e =
    from_front commands l.gone l.current l.left l.here rest o exchanges answer l.led
    (λ done. none_left o.p1 o.p2 o.rest l.left (settled done) l.are_left) l.taken are room
    (e ∙ ap (λ x. x ++ rest) l.pairs_are)

pub operation_due_next : (commands : List Command) (came rest : List Pair) (p : Pair)
    (o : ApduOperationOf) (exchanges : List (List Pair)) (answer : Reply)
    → LeadsTo commands came (Some o) → AreApdusOf commands exchanges answer
    → HaveRoom o.exchange.gather.limit exchanges → talk_pairs exchanges ≡ came ++ p ∷ rest
    → due_of o.exchange ≡ Some p.command
operation_due_next commands came rest p o exchanges answer leads are room e =
    due_within o.exchange p rest answer.status answer.content
    (stands commands came (p ∷ rest) o exchanges answer leads are room e)

pub operation_over : (commands : List Command) (came : List Pair) (o : ApduOperationOf)
    (exchanges : List (List Pair)) (answer : Reply) → LeadsTo commands came (Some o)
    → AreApdusOf commands exchanges answer → HaveRoom o.exchange.gather.limit exchanges
    → came ≡ talk_pairs exchanges
    → (o.exchange.stage ≡ Done answer.status) × (o.exchange.gather.bytes ≡ answer.content)
operation_over commands came o exchanges answer leads are room e =
    over_within o.exchange answer.status answer.content
    (stands commands came [] o exchanges answer leads are room (sym e ∙ sym (append-nil came)))
