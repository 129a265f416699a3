-- Only a put changes the tables of a card that carries out whole commands.
use Rattle.std.proofs.Common.{◌≡◌, ℕ, List, [], ◌∷◌, length, refl, sym, ap, ◌∙◌, subst, arith, inl, inr, ◌⊎◌}
use Rattle.apdu_core.specs.declared.header.Header.{Header}
use Rattle.apdu_core.specs.StatusWord.{StatusWord, ok}
use Rattle.apdu_core.specs.CommandBytes.{Command}
use Rattle.t0_core.specs.declared.tpdu_card.TpduCard.{Ghosts}
use Rattle.t0_core.specs.Meaning.{Tpdu}
use Rattle.apdu_core.specs.Shared.{get_response}
use Rattle.apdu_terminal.specs.declared.apdu_fault.CarryFault.{CarryFault}
use Rattle.apdu_terminal.specs.declared.apdu_fault.CarryFault.TheVariants as why
use Rattle.apdu_terminal.specs.Apdus.{Pair, Place, command_at, first_place, Goes, Stalls, Ends, follow, GoesThrough}
use Rattle.apdu_terminal.specs.CardApdu.{GoesAs, GoesBy, HasFailed, Responds, le_of, tpdu_command}
use Rattle.apdu_terminal.specs.TurnLaws.{turns_apart}
use Rattle.apdu_terminal.proofs.PlaceLemmas.{Comes, again, fetch, comes}

-- no command follows 9000
ends_at_ok : (at : Place) (came : ℕ) → follow at came ok ≡ Ends
ends_at_ok at came = refl

-- a GET RESPONSE of the exchange, or a command with this header
abbrev IsFor : Header → Place → Type 0
IsFor h at = (at.attempt.header ≡ h) ⊎ (at.attempt.header ≡ get_response)

for_next : (h : Header) (at next : Place) (came : ℕ) (status : StatusWord) → IsFor h at
    → Comes at came status next → IsFor h next
for_next h at next came status is (again n may wants told same) = rw same is
for_next h at next came status is (fetch n told some same) = rw same (inr refl)

module _ {State A : Type 0} (Own : State → ℕ → Tpdu → State → Type 0) (tables : State → A) where
  -- the tables stay, or a PUT DATA with CLA 00 got 9000
  abbrev pub Changes : Header → StatusWord → (old new : State) → Type 0
  Changes h status old new =
      (tables new ≡ tables old) ⊎ ((h.cla ≡ 0x00) × (h.ins ≡ 0xDA) × (status ≡ ok))

  module _ (one : (old new : State) (t : Tpdu) → Own old 256 t new
      → Changes t.header t.status old new) where
    pair_changes : (old new : State) (p : Pair) → GoesAs Own old p new
        → Changes p.command.header p.status old new
    pair_changes old new p (t, is, does) =
        rw (sym is.header_is, sym is.status_is) (one old new t does)

    -- a pair after which the exchange does not end
    pair_keeps : (old new : State) (p : Pair) (at : Place) → GoesAs Own old p new
        → (follow at (length p.content) p.status ≡ Ends → ⊥) → tables new ≡ tables old
    pair_keeps old new p at goes goes_on = elim (pair_changes old new p goes) [
      | inl same ↦ same
      | inr (cla, ins, status) ↦
          absurd (goes_on (ap (follow at (length p.content)) status
          ∙ ends_at_ok at (length p.content)))
    ]

    through_keeps : (h : Header) (at last : Place) (pairs : List Pair) (old new : State)
        → IsFor h at → GoesThrough at pairs last → GoesBy Own old pairs new
        → (tables new ≡ tables old) × IsFor h last
    through_keeps h at last [] old new is same goes = (ap tables goes, rw same is)
    through_keeps h at last (p ∷ pairs) old new is (next, suits, follows, rest)
        (mid, one, others) =
        let b = through_keeps h next last pairs mid new
        (for_next h at next (length p.content) p.status is
        (comes at next (length p.content) p.status follows)) rest others in (
          b.0 ∙ pair_keeps old mid p at one
              (λ ends. let no : Goes next ≡ Ends = sym follows ∙ ends in absurd (cc)),
          b.1,
        )

    -- the last pair decides
    last_changes : (h : Header) (at : Place) (p : Pair) (old new : State) → IsFor h at
        → p.command ≡ command_at at → GoesAs Own old p new → Changes h p.status old new
    last_changes h at p old new is due goes = by is (pair_changes old new p goes) where
      by : IsFor h at → Changes p.command.header p.status old new → Changes h p.status old new
      by is (inl same) = inl same
      by (inl own) (inr (cla, ins, status)) =
          let of : p.command.header ≡ h = ap (λ (c : Command). c.header) due ∙ own in
          inr (
            ap (λ (x : Header). x.cla) (sym of) ∙ cla,
            ap (λ (x : Header). x.ins) (sym of) ∙ ins,
            status,
          )
      by (inr fetched) (inr (cla, ins, status)) =
          let of : p.command.header ≡ get_response =
          ap (λ (c : Command). c.header) due ∙ fetched in
          let no : 0xC0 ≡ 0xDA = ap (λ (x : Header). x.ins) (sym of) ∙ ins in
          absurd (omega (arith, no))

    pub response_changes : (old new : State) (p : Pair) → Responds Own old p new
        → Changes p.command.header p.status old new
    response_changes old new p (inner, b, goes) =
        let h = p.command.header in
        let (mid, first, (last, is, stays)) =
        turns_apart (GoesAs Own) old new b.before (b.last ∷ []) (rw b.pairs_are at goes) in
        let (same, for) = through_keeps h
        (first_place (tpdu_command p.command) (le_of p.command)) b.at b.before old mid (inl refl)
        b.through first in
        let then_so : Changes h p.status mid new =
        subst (λ s. Changes h p.status mid s) (sym stays)
        (subst (λ status. Changes h status mid last) (sym b.status_is)
        (last_changes h b.at b.last mid last for b.suits.is_due is)) in
        elim then_so [
          | inl kept ↦ inl (kept ∙ same)
          | inr put ↦ inr put
        ]

module _ {C A : Type 0} (card : Ghosts C) (tables : card.State → A)
    (one : (old new : card.State) (t : Tpdu) → card.Does old 256 t new
    → Changes card.Does tables t.header t.status old new)
    (resets : (s : card.State) → tables (card.after_reset s) ≡ tables s) where
  -- a command without a response
  pub failure_keeps : (c : Command) (old new : card.State) (fault : CarryFault)
      → HasFailed card c old fault new → tables new ≡ tables old
  failure_keeps c old new why.UnderWay h = absurd h
  failure_keeps c old new why.OutOfMemory h = absurd h
  failure_keeps c old new (why.Tpdu fault) (never, (pairs, at, mid, through, goes, stops, is)) =
      ap tables is ∙ resets mid
      ∙ (through_keeps card.Does tables one c.header (first_place (tpdu_command c) (le_of c)) at
      pairs old mid (inl refl) through goes).0
  failure_keeps c old new (why.Response fault) (stalled, (pairs, s, goes)) =
      let (mid, first, (last, is, stays)) =
      turns_apart (GoesAs card.Does) old new s.before (s.last ∷ []) (rw s.pairs_are at goes) in
      ap tables stays
      ∙ pair_keeps card.Does tables one mid last s.last s.at is
      (λ ends. let no : Stalls ≡ Ends = sym s.stalls ∙ ends in absurd (cc))
      ∙ (through_keeps card.Does tables one c.header (first_place (tpdu_command c) (le_of c)) s.at
      s.before old mid (inl refl) s.through first).0
