-- What a tap reports about worked dialogues, computed from the definitions, and near misses.
use Rattle.std.proofs.Common.{◌≡◌, ℕ, [], ◌∷◌, ◌++◌, refl, Some, None}
use Rattle.t0_core.specs.declared.end.End.TheVariants.{Terminal, Card}
use Rattle.t0_core.specs.declared.direction.Direction.TheVariants.{FromCard}
use Rattle.t0_core.specs.declared.plan.Step.TheVariants.{Null, One, All}
use Rattle.t0_core.specs.declared.heard.Said.{Said}
use Rattle.t0_core.specs.declared.heard.Heard.TheVariants.{Header, Procedure, Data, FirstStatus, SecondStatus}
use Rattle.t0_core.specs.declared.tap_fault.TapFault.TheVariants.{OutOfTurn, BadProcedure}
use Rattle.t0_core.specs.Character.{sent_by}
use Rattle.t0_core.specs.TapSide.{Between, In_data, After_sw1, tap_fault_at, afresh, after_hearing}
use Rattle.t0_core.specs.TapLine.{HearsInTurn}

-- an object of two bytes, after a NULL and one single byte
two_bytes : HearsInTurn afresh (sent_by Terminal (0x00 ∷ 0xCA ∷ 0x5F ∷ 0x20 ∷ 0x02 ∷ [])
    ++ sent_by Card (0x60 ∷ 0x35 ∷ 0x60 ∷ 0xCA ∷ 0x90 ∷ 0x90 ∷ 0x00 ∷ []))
    (Header ∷ Header ∷ Header ∷ Header ∷ Header ∷ Procedure Null ∷ Procedure One ∷ Data FromCard
    ∷ Procedure All ∷ Data FromCard ∷ FirstStatus ∷ SecondStatus (record {
      header = record { cla = 0x00; ins = 0xCA; p1 = 0x5F; p2 = 0x20 };
      p3 = 2;
      direction = Some FromCard;
      moved = 2;
    }) (0x90, 0x00) ∷ []) afresh
two_bytes = (
  refl,
  refl,
  (
    refl,
    refl,
    (
      refl,
      refl,
      (
        refl,
        refl,
        (
          refl,
          refl,
          (
            refl,
            refl,
            (
              refl,
              refl,
              (
                refl,
                refl,
                (
                  refl,
                  refl,
                  (
                    refl,
                    refl,
                    (refl, refl, (refl, refl, (refl, refl))),
                  ),
                ),
              ),
            ),
          ),
        ),
      ),
    ),
  ),
)

-- a TPDU with one data character, before any has moved
abbrev open_with : ℕ → ℕ → Said
open_with ins p3 = record {
  header = record { cla = 0x00; ins = ins; p1 = 0x00; p2 = 0x00 };
  p3 = p3;
  direction = None;
  moved = 0;
}

-- after INS either end may send the data; with P3 00 only the card
either_end : tap_fault_at (In_data (open_with 0xDA 1) 1) Terminal 0x41 ≡ None
either_end = refl

the_card_alone : tap_fault_at (In_data (open_with 0xCA 0) 256) Terminal 0x41 ≡ Some OutOfTurn
the_card_alone = refl

begins_256 : after_hearing (Between (open_with 0xCA 0)) Card 0xCA ≡ In_data (open_with 0xCA 0) 256
begins_256 = refl

-- if INS is invalid, its own value is SW1
no_instruction : tap_fault_at (Between (open_with 0x6F 1)) Card 0x10 ≡ Some BadProcedure
no_instruction = refl

a_status : after_hearing (Between (open_with 0x6F 1)) Card 0x6F ≡ After_sw1 (open_with 0x6F 1) 0x6F
a_status = refl

not_the_cards : tap_fault_at afresh Card 0x3B ≡ Some OutOfTurn
not_the_cards = refl
