-- The characters that led to an exchange lead to the next state with one more character.
use Rattle.std.proofs.Common.{◌≡◌, ℕ, List, [], ◌∷◌, ◌++◌, refl, sym, ◌∙◌, ap, inl, inr, ◌⊎◌, true, false, Bool, Option, Some, None, append-nil, append_assoc, if◌then◌else◌}
use Rattle.std.specs.List.{flat_map}
use Rattle.apdu_core.specs.StatusWord.{StatusWord}
use Rattle.apdu_core.specs.CommandBytes.{Command}
use Rattle.t0_core.specs.declared.end.End.TheVariants.{Terminal, Card}
use Rattle.t0_core.specs.declared.host_end.HostTurn.{HostTurn}
use Rattle.t0_core.specs.declared.host_end.HostTurn.TheVariants.{Sends, Done, Failed}
use Rattle.t0_core.specs.declared.line_fault.LineFault.{LineFault}
use Rattle.t0_core.specs.declared.line_fault.LineFault.TheVariants.{BadProcedure, AfterEnd, TooLong, Stalled, NotListening}
use Rattle.t0_core.specs.Character.{Character}
use Rattle.t0_core.specs.Dialogue.{Dialogue, characters, IsDialogue}
use Rattle.t0_core.specs.Front.{Front, GoesOn, Ends, IsFront, front_characters, fresh}
use Rattle.t0_core.specs.FrontLaws.{goes_on}
use Rattle.t0_core.specs.DialogueLaws.{flat_map_last, ends_with, all_more}
use Rattle.t0_core.specs.HostSide.{Hosting, turn_of, fault_of, at_stage, after_fault}
use Rattle.t0_core.specs.HostLaws.{after_done, after_failure, going}
use Rattle.exchange_core.specs.Gathered.{UnitOf}
use Rattle.exchange_core.specs.ExchangeSide.{ExchangeOf, UnderWay, IsKept, IsAtEnd, Stall, Continues, so_far, ended_with, exchange_turn, is_final}
use Rattle.exchange_core.specs.ExchangeHistory.{characters_to, ComesTo, to_front, to_end, to_stall, to_fault}
use Rattle.exchange_core.proofs.EndLemmas.{ended_at}
use Rattle.exchange_core.specs.ComesToLaws.{final_is_no_end, over_turn, some_fault}
use Rattle.exchange_core.specs.UnitLaws.{unit_dialogues, unit_ends, unit_goes_on}

-- one more character of a front, and the last of a dialogue
front_more : (came : List Character) (ds : List Dialogue) (front new : Front) (ch : Character)
    → came ≡ flat_map characters ds ++ front_characters front → IsFront front → GoesOn front ch new
    → came ++ ch ∷ [] ≡ flat_map characters ds ++ front_characters new
front_more came ds front new ch is front_is goes =
    ap (λ cs. cs ++ ch ∷ []) is
    ∙ append_assoc (flat_map characters ds) (front_characters front) (ch ∷ [])
    ∙ ap (λ cs. flat_map characters ds ++ cs) (sym (goes_on front new ch front_is goes).1)

end_more : (came : List Character) (ds : List Dialogue) (front : Front) (byte : ℕ) (d : Dialogue)
    → came ≡ flat_map characters ds ++ front_characters front → Ends front (Card, byte) d
    → came ++ (Card, byte) ∷ [] ≡ flat_map characters (ds ++ d ∷ [])
end_more came ds front byte d is ends =
    ap (λ cs. cs ++ (Card, byte) ∷ []) is
    ∙ append_assoc (flat_map characters ds) (front_characters front) ((Card, byte) ∷ [])
    ∙ ap (λ cs. flat_map characters ds ++ cs) (sym (ends_with front byte d ends))
    ∙ sym (flat_map_last characters ds d)

fresh_more : (came : List Character) (ds es : List Dialogue) → came ≡ flat_map characters ds
    → es ≡ ds → came ≡ flat_map characters es ++ []
fresh_more came ds es is same = is ∙ ap (flat_map characters) (sym same)
    ∙ sym (append-nil (flat_map characters es))

-- ---- a character of the terminal

pub done_sends_nothing : (status : StatusWord) (byte : ℕ) (turn : HostTurn) → turn ≡ Done status
    → turn ≡ Sends byte → ⊥
done_sends_nothing status byte turn done sends = absurd (cc)

pub failed_sends_nothing : (byte : ℕ) (turn : HostTurn) → turn ≡ Failed → turn ≡ Sends byte → ⊥
failed_sends_nothing byte turn failed sends = absurd (cc)

pub next_leads : (c : Command) (came : List Character) (ex new : ExchangeOf) (byte : ℕ)
    → exchange_turn ex ≡ Sends byte
    → ((units : List UnitOf) (first : Option Dialogue) (front : Front)
    → UnderWay c ex units first front → (f : Front) × GoesOn front (Terminal, byte) f
    × UnderWay c new units first f)
    → ComesTo c came ex → ComesTo c (came ++ (Terminal, byte) ∷ []) new
next_leads c came ex new byte sends goes_on (to_front units first front under is) =
    let goes = goes_on units first front under in
    to_front units first goes.0 goes.2
    (front_more came (so_far units first) front goes.0 (Terminal, byte) is under.is_front
    goes.1)
next_leads c came ex new byte sends goes_on (to_end units status over is) =
    absurd (done_sends_nothing status byte (exchange_turn ex)
    (over_turn c ex units status over) sends)
next_leads c came ex new byte sends goes_on (to_stall units stall are failed is) =
    absurd (failed_sends_nothing byte (exchange_turn ex) failed sends)
next_leads c came ex new byte sends goes_on
    (to_fault units first front before b fault under why final failed same is) =
    absurd (failed_sends_nothing byte (exchange_turn ex) failed sends)

-- ---- a character of the card

-- an exchange that has ended or failed takes no character
pub at_end_fault : (ex : ExchangeOf) (byte : ℕ) → IsKept ex → IsAtEnd ex
    → fault_of ex.host ex.gather byte ≡ Some AfterEnd
at_end_fault ex byte kept end = by ex.stalled refl end
  where
    by : (v : Bool) → ex.stalled ≡ v → IsAtEnd ex → fault_of ex.host ex.gather byte ≡ Some AfterEnd
    by true stalled end = let done = kept.stalled_at_end stalled in
        after_done ex.host ex.gather byte done.0 done.1
    by false going (inl failed) =
        after_failure ex.host ex.gather byte
        (ap (λ b. if b then Failed else turn_of ex.host) (sym going) ∙ failed)
    by false going (inr (status, done)) =
        after_done ex.host ex.gather byte status
        (ap (λ b. if b then Failed else turn_of ex.host) (sym going) ∙ done)

pub none_at_end : (ex : ExchangeOf) (byte : ℕ) → IsKept ex → None ≡ fault_of ex.host ex.gather byte
    → IsAtEnd ex → ⊥
none_at_end ex byte kept taken end =
    let over = at_end_fault ex byte kept end in absurd (cc)

end_of : (c : Command) (came : List Character) (ex : ExchangeOf) → ComesTo c came ex
    → ((units : List UnitOf) × (first : Option Dialogue) × (front : Front)
    × UnderWay c ex units first front × (came ≡ characters_to units first front)) ⊎ IsAtEnd ex
end_of c came ex (to_front units first front under is) = inl (units, first, front, under, is)
end_of c came ex (to_end units status over is) =
    inr (inr (status, over_turn c ex units status over))
end_of c came ex (to_stall units stall are failed is) = inr (inl failed)
end_of c came ex (to_fault units first front before b fault under why final failed same is) = inr
    (inl failed)

continues_leads : (c : Command) (came : List Character) (new : ExchangeOf) (units : List UnitOf)
    (first : Option Dialogue) (d : Dialogue)
    → came ≡ flat_map characters (so_far units first ++ d ∷ [])
    → Continues c new units first d → ComesTo c came new
continues_leads c came new units first d is (inl (none, under)) =
    to_front units (Some d) fresh under
    (fresh_more came _ _ is (unit_goes_on units d
    ∙ ap (λ t. so_far units t ++ d ∷ []) (sym none)))
continues_leads c came new units first d is (inr (inl under)) =
    to_front (units ++ ended_with first d ∷ []) None fresh under
    (fresh_more came _ _ is (unit_ends units first d))
continues_leads c came new units first d is (inr (inr over)) =
    to_end (units ++ ended_with first d ∷ []) d.status over
    (is ∙ ap (flat_map characters) (sym (unit_dialogues units first d)))

pub take_leads : (c : Command) (came : List Character) (ex new : ExchangeOf) (byte : ℕ)
    → IsKept ex → None ≡ fault_of ex.host ex.gather byte
    → ((units : List UnitOf) (first : Option Dialogue) (front f : Front)
    → UnderWay c ex units first front → GoesOn front (Card, byte) f
    → UnderWay c new units first f)
    → ((units : List UnitOf) (first : Option Dialogue) (front : Front) (d : Dialogue)
    → UnderWay c ex units first front → Ends front (Card, byte) d
    → Continues c new units first d)
    → ((units : List UnitOf) (first : Option Dialogue) (front : Front)
    → UnderWay c ex units first front → ((f : Front) × GoesOn front (Card, byte) f)
    ⊎ ((d : Dialogue) × Ends front (Card, byte) d))
    → ComesTo c came ex → ComesTo c (came ++ (Card, byte) ∷ []) new
take_leads c came ex new byte kept taken goes_on ends takes leads = elim (end_of c came ex leads) [
  | inl (units, first, front, under, is) ↦
      elim (takes units first front under) [
        | inl goes ↦ to_front units first goes.0 (goes_on units first front goes.0 under goes.1)
            (front_more came (so_far units first) front goes.0 (Card, byte) is under.is_front
            goes.1)
        | inr end ↦ continues_leads c _ new units first end.0
            (end_more came (so_far units first) front byte end.0 is end.1)
            (ends units first front end.0 under end.1)
      ]
  | inr end ↦ absurd (none_at_end ex byte kept taken end)
]

pub stall_leads : (c : Command) (came : List Character) (ex new : ExchangeOf) (byte : ℕ)
    → IsKept ex → None ≡ fault_of ex.host ex.gather byte → exchange_turn new ≡ Failed
    → ((units : List UnitOf) (first : Option Dialogue) (front f : Front)
    → UnderWay c ex units first front → GoesOn front (Card, byte) f → ⊥)
    → ((units : List UnitOf) (first : Option Dialogue) (front : Front) (d : Dialogue)
    → UnderWay c ex units first front → Ends front (Card, byte) d
    → Stall c (units ++ ended_with first d ∷ []))
    → ((units : List UnitOf) (first : Option Dialogue) (front : Front)
    → UnderWay c ex units first front → ((f : Front) × GoesOn front (Card, byte) f)
    ⊎ ((d : Dialogue) × Ends front (Card, byte) d))
    → ComesTo c came ex → ComesTo c (came ++ (Card, byte) ∷ []) new
stall_leads c came ex new byte kept taken failed goes_on ends takes leads =
    elim (end_of c came ex leads) [
      | inl (units, first, front, under, is) ↦
          elim (takes units first front under) [
            | inl goes ↦ absurd (goes_on units first front goes.0 under goes.1)
            | inr end ↦
                let d = end.0 in
                let ended = ended_at ex.host front byte d under.stands under.is_front end.1 in
                to_stall (units ++ ended_with first d ∷ []) (ends units first front d under end.1)
                (rw (unit_dialogues units first d)
                (all_more IsDialogue (so_far units first) d under.are_dialogues ended.1)) failed
                (end_more came (so_far units first) front byte d is end.1
                ∙ ap (flat_map characters) (sym (unit_dialogues units first d)))
          ]
      | inr end ↦ absurd (none_at_end ex byte kept taken end)
    ]

pub fault_leads : (c : Command) (came : List Character) (ex new : ExchangeOf) (byte : ℕ)
    (fault : LineFault) → IsKept ex → fault_of ex.host ex.gather byte ≡ Some fault
    → is_final fault ≡ true → exchange_turn new ≡ Failed → ex.gather.limit ≡ new.gather.limit
    → ComesTo c came ex
    → ComesTo c (came ++ (Card, byte) ∷ []) new
fault_leads c came ex new byte fault kept why final failed same leads =
    elim (end_of c came ex leads) [
      | inl (units, first, front, under, is) ↦
          to_fault units first front ex byte fault under why final failed same
          (ap (λ cs. cs ++ (Card, byte) ∷ []) is)
      | inr end ↦ absurd (final_is_no_end fault final
          (some_fault fault AfterEnd (sym why ∙ at_end_fault ex byte kept end)))
    ]

pub failed_turn : (stalled : Bool) (host : Hosting) → turn_of host ≡ Failed
    → (if stalled then Failed else turn_of host) ≡ Failed
failed_turn true host failed = refl
failed_turn false host failed = failed

-- the end has failed after a final fault
pub broken : (host new : Hosting) (fault : LineFault)
    → new ≡ at_stage host (after_fault host.stage fault) → is_final fault ≡ true
    → turn_of new ≡ Failed
broken host new (BadProcedure byte) is final = ap turn_of is
broken host new AfterEnd is final = absurd (cc)
broken host new TooLong is final = ap turn_of is
broken host new Stalled is final = ap turn_of is
broken host new NotListening is final = absurd (cc)
