-- Rows of exchanges, as instances of the definitions, and near misses.
use Rattle.std.proofs.Common.{◌≡◌, ◌<◌, ℕ, List, [], ◌∷◌, ◌++◌, refl, sym, ◌∙◌, arith, lit<, Option, Some, None}
use Rattle.apdu_core.specs.declared.header.Header.{Header}
use Rattle.apdu_core.specs.StatusWord.{StatusWord, count}
use Rattle.apdu_core.specs.CommandBytes.{Command}
use Rattle.t0_core.specs.declared.direction.Direction.TheVariants.{ToCard, FromCard}
use Rattle.t0_core.specs.declared.plan.Step.TheVariants.{All}
use Rattle.t0_core.specs.Dialogue.{Dialogue}
use Rattle.exchange_core.specs.declared.wanted.Wanted.TheVariants.{Bytes, Everything}
use Rattle.apdu_core.specs.Shared.{get_response}
use Rattle.exchange_core.specs.Gathered.{wanted_by, less, fetched_after, By_command, By_fetch, UnitOf, Single, Repeated, IsUnit, IsFollowed, AreFollowed, Gathers}
use Rattle.exchange_core.specs.ExchangeSide.{Stall}
use Rattle.exchange_core.specs.RowLaws.{asks, dialogue, of_one, of_two, sends, whole}

-- ---- the parts of a row

-- ---- the rows

abbrev get_data : Header
get_data = record { cla = 0x00; ins = 0xCA; p1 = 0x5F; p2 = 0x20 }

abbrev put_data : Header
put_data = record { cla = 0x00; ins = 0xDA; p1 = 0x5F; p2 = 0x20 }

-- a GET DATA for `n` bytes, and a PUT DATA of one
abbrev get : ℕ → Command
get n = record { header = get_data; content = []; le = Some n }

abbrev put : Command
put = record { header = put_data; content = 0x41 ∷ []; le = None }

-- a dialogue that asks for data: refused, or with these data
abbrev refused : Header → ℕ → StatusWord → Dialogue
refused h p3 status = dialogue h p3 FromCard [] [] status

abbrev given : Header → ℕ → List ℕ → StatusWord → Dialogue
given h p3 moved status = dialogue h p3 FromCard (All ∷ []) moved status

-- a TPDU is repeated unless the count exceeds what is wanted
above_what_is_wanted : Gathers (get 4)
    (Single (refused get_data 4 (0x6C, 0x06)) ∷ []) [] (0x6C, 0x06)
above_what_is_wanted = whole (of_one (get 4) (Single (refused get_data 4 (0x6C, 0x06)))
    (asks refl refl refl (lit< tt)) refl) refl

no_repetition_above : IsUnit (Bytes 4)
    (Repeated (refused get_data 4 (0x6C, 0x06)) (refused get_data 6 (0x90, 0x00))) → ⊥
no_repetition_above (n, told, asks) = let e : None ≡ Some n = told in absurd (cc)

-- a repetition that gets 6CXX again ends the exchange
corrected_twice : Gathers (get 256)
    (Repeated (refused get_data 0 (0x6C, 0x06)) (refused get_data 6 (0x6C, 0x05)) ∷ []) []
    (0x6C, 0x05)
corrected_twice = whole (of_one (get 256)
    (Repeated (refused get_data 0 (0x6C, 0x06)) (refused get_data 6 (0x6C, 0x05)))
    (asks refl refl refl (lit< tt)) (6, refl, asks refl refl refl (lit< tt))) refl

-- a repetition that 6CXX asks for is not left out
no_correction_ignored : IsUnit Everything (Single (refused get_data 0 (0x6C, 0x06))) → ⊥
no_correction_ignored none =
    let six : Option ℕ = Some 6 in let e : six ≡ None = none in absurd (cc)

-- no more is fetched than is wanted
two_are_wanted : Gathers (get 2)
    (Single (refused get_data 2 (0x61, 0x05))
    ∷ Single (given get_response 2 (1 ∷ 2 ∷ []) (0x61, 0x03)) ∷ []) (1 ∷ 2 ∷ []) (0x61, 0x03)
two_are_wanted = whole (of_two (get 2) (Single (refused get_data 2 (0x61, 0x05)))
    (Single (given get_response 2 (1 ∷ 2 ∷ []) (0x61, 0x03))) 2 (asks refl refl refl (lit< tt))
    refl refl (asks refl refl refl (lit< tt)) refl) refl

same_count : (a b : ℕ) → Some a ≡ Some b → a ≡ b
same_count a b e = cc

no_fetch_of_five : IsFollowed (By_command (get 2)) (Bytes 2)
    (Single (refused get_data 2 (0x61, 0x05))) 5 → ⊥
no_fetch_of_five followed = let same = same_count 2 5 followed.fetched in
    absurd (omega (arith, same))

-- data to the card: nothing is wanted, so that 61XX ends the exchange
abbrev taken : Dialogue
taken = dialogue put_data 1 ToCard (All ∷ []) (0x41 ∷ []) (0x61, 0x05)

nothing_is_wanted : Gathers put (Single taken ∷ []) [] (0x61, 0x05)
nothing_is_wanted = whole (of_one put (Single taken) (sends refl refl refl refl) refl) refl

-- everything is wanted, even beyond 256 bytes
more_is_fetched : fetched_after (less (wanted_by (Some 256)) 256) (0x61, 0x00) ≡ Some 256
more_is_fetched = refl

no_more_past_255 : fetched_after (less (wanted_by (Some 255)) 255) (0x61, 0x00) ≡ None
no_more_past_255 = refl

-- an exchange stalls if a fetch brings nothing and more is announced
second_stalls : Stall (get 256)
    (Single (refused get_data 0 (0x61, 0x05)) ∷ Single (refused get_response 5 (0x61, 0x05)) ∷ [])
second_stalls = record {
  is_open = of_two (get 256) (Single (refused get_data 0 (0x61, 0x05)))
      (Single (refused get_response 5 (0x61, 0x05))) 5 (asks refl refl refl (lit< tt)) refl refl
      (asks refl refl refl (lit< tt)) refl;
  asked = 5;
  more = 5;
  is_fetch = refl;
  brought_none = refl;
  announces = refl;
}

no_fetch_after_nothing : IsFollowed (By_fetch 5) Everything
    (Single (refused get_response 5 (0x61, 0x05))) 5 → ⊥
no_fetch_after_nothing followed = followed.brings refl

-- the first unit does not stall
first_does_not_stall : Stall (get 256) (Single (refused get_data 0 (0x61, 0x05)) ∷ []) → ⊥
first_does_not_stall stall = by stall.is_open.before stall.is_open.units_are stall.is_open.followed
  where
    by : (before : List UnitOf)
        → Single (refused get_data 0 (0x61, 0x05)) ∷ [] ≡ before ++ stall.is_open.last ∷ []
        → AreFollowed (By_command (get 256)) Everything before stall.is_open.opening
        stall.is_open.left → ⊥
    by [] is followed = let e : By_command (get 256) ≡ By_fetch stall.asked = sym followed.0
        ∙ stall.is_fetch in absurd (cc)
    by (u ∷ []) is followed = absurd (cc)
    by (u ∷ v ∷ before) is followed = absurd (cc)
