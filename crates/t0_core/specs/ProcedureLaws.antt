-- Laws: the procedure bytes of an instruction differ from each other and from every SW1.
use Rattle.std.proofs.Common.{◌≡◌, ℕ, ◌+◌, ◌<◌, ◌≤◌, refl, sym, subst, ◌∙◌, ap, arith, inl, inr, true, false, ◌&&◌, ◌⊎◌, nat_le, Some, None, ◌/◌, ◌%◌, eq-eqb, bit_xor, bit_and}
use Rattle.std.specs.Int.Bits.{xor_add_and}
use Rattle.std.proofs.lemmas.Nat.{and_mask}
use Rattle.std.proofs.lemmas.Bool.{leb-true, ne_eqb, or_cases, and_parts}
use Rattle.apdu_core.specs.HeaderBytes.{ins_is_valid}
use Rattle.apdu_core.specs.StatusWord.{IsStatusWord, is_first_status}
use Rattle.t0_core.specs.declared.plan.Step.{Step}
use Rattle.t0_core.specs.declared.plan.Step.TheVariants.{Null, One, All}
use Rattle.t0_core.specs.Dialogue.{procedure_byte}
use Rattle.t0_core.specs.HostSide.{step_of}

-- INS xor FF
pub flipped : (ins : ℕ) → ins < 256 → bit_xor ins 0xFF + ins ≡ 255
flipped ins small =
    let masked : bit_and ins 0xFF ≡ ins % 256 = and_mask ins 8 in
    omega (arith, small, xor_add_and ins 0xFF, masked)

no_six : (ins : ℕ) → ins / 16 ≡ 6 → ins_is_valid ins ≡ true → ⊥
no_six ins six valid = let e : ins_is_valid ins ≡ false = rw six refl in absurd (cc)

no_nine : (ins : ℕ) → ins / 16 ≡ 9 → ins_is_valid ins ≡ true → ⊥
no_nine ins nine valid = let e : ins_is_valid ins ≡ false = rw nine refl in absurd (cc)

-- the three procedure bytes of an instruction differ
pub step_is : (ins : ℕ) (s : Step) → ins_is_valid ins ≡ true → ins < 256
    → step_of ins (procedure_byte ins s) ≡ Some s
step_is ins Null valid small = refl
step_is ins All valid small =
    rw (ne_eqb ins 0x60 (λ same. no_six ins (omega (arith, same)) valid), eq-eqb ins ins refl) refl
step_is ins One valid small =
    rw (
      ne_eqb (bit_xor ins 0xFF) 0x60
          (λ same. no_nine ins (omega (arith, same, flipped ins small)) valid),
      ne_eqb (bit_xor ins 0xFF) ins (λ same. absurd (omega (arith, same, flipped ins small))),
      eq-eqb (bit_xor ins 0xFF) (bit_xor ins 0xFF) refl,
    ) refl

pub first_is_in_range : (byte : ℕ) → is_first_status byte ≡ true
    → ((0x61 ≤ byte) × (byte ≤ 0x6F)) ⊎ ((0x90 ≤ byte) × (byte ≤ 0x9F))
first_is_in_range byte first =
    elim (or_cases (nat_le 0x61 byte && nat_le byte 0x6F) (nat_le 0x90 byte && nat_le byte 0x9F)
    first) [
      | inl six ↦
          let both = and_parts (nat_le 0x61 byte) (nat_le byte 0x6F) six in
          inl (leb-true 0x61 byte both.0, leb-true byte 0x6F both.1)
      | inr nine ↦
          let both = and_parts (nat_le 0x90 byte) (nat_le byte 0x9F) nine in
          inr (leb-true 0x90 byte both.0, leb-true byte 0x9F both.1)
    ]

-- and no SW1 is one of them
pub status_is_no_step : (ins byte : ℕ) → ins_is_valid ins ≡ true → ins < 256
    → IsStatusWord (byte, 0) → step_of ins byte ≡ None
status_is_no_step ins byte valid small status =
    let range = first_is_in_range byte status.0 in
    rw (
      ne_eqb byte 0x60 (λ same. elim range [
        | inl six ↦
            absurd (omega (arith, same, six.0))
        | inr nine ↦ absurd (omega (arith, same, nine.0))
      ]),
      ne_eqb byte ins (λ same. elim range [
        | inl six ↦ no_six ins (omega (arith, same, six.0, six.1)) valid
        | inr nine ↦ no_nine ins (omega (arith, same, nine.0, nine.1)) valid
      ]),
      ne_eqb byte (bit_xor ins 0xFF) (λ same. elim range [
        | inl six ↦ no_nine ins (omega (arith, same, six.0, six.1, flipped ins small)) valid
        | inr nine ↦ no_six ins (omega (arith, same, nine.0, nine.1, flipped ins small)) valid
      ]),
    ) refl

-- the first bytes of segments and of statuses differ, for the segments that an INS allows
pub record Apart (ins : ℕ) (Allowed : Step → Type 0) : Type 0 where
  pub steps : (s t : Step) → Allowed s → Allowed t
      → procedure_byte ins s ≡ procedure_byte ins t → s ≡ t
  pub status : (s : Step) (byte : ℕ) → Allowed s → IsStatusWord (byte, 0)
      → byte ≡ procedure_byte ins s → ⊥

pub apart_where_valid : (ins : ℕ) → ins_is_valid ins ≡ true → ins < 256 → Apart ins (λ _. Unit {0})
apart_where_valid ins valid small = record {
  steps = λ s t _ _ e. let h : Some s ≡ Some t = sym (step_is ins s valid small)
      ∙ ap (step_of ins) e ∙ step_is ins t valid small in cc;
  status = λ s byte _ first e.
      let h : None ≡ Some s = sym (status_is_no_step ins byte valid small first)
      ∙ ap (step_of ins) e ∙ step_is ins s valid small in absurd (cc);
}

pub apart_where_invalid : (ins : ℕ) → Apart ins (λ s. s ≡ Null)
apart_where_invalid ins = record {
  steps = λ s t a b e. a ∙ sym b;
  status = λ s byte null first e.
      let sixty : byte ≡ 0x60 = e ∙ ap (procedure_byte ins) null in
      let First : ℕ → Type 0 = λ b. is_first_status b ≡ true in
      let no : false ≡ true = subst First sixty first.0 in absurd (cc);
}
