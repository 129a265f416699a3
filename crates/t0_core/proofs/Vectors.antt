-- Worked dialogues, computed from the definitions, and near misses.
use Rattle.std.proofs.Common.{◌≡◌, ℕ, List, [], ◌∷◌, ◌++◌, refl, inl, inr, lit<, Some, None}
use Rattle.apdu_core.specs.declared.header.Header.{Header}
use Rattle.t0_core.specs.declared.end.End.TheVariants.{Terminal, Card}
use Rattle.t0_core.specs.declared.plan.Step.TheVariants.{Null, One, All}
use Rattle.t0_core.specs.Character.{sent_by}
use Rattle.t0_core.specs.declared.direction.Direction.TheVariants.{ToCard, FromCard}
use Rattle.t0_core.specs.Dialogue.{Dialogue, characters, IsDialogue}
use Rattle.t0_core.specs.Plan.{segments_of, Follows, plain, advanced, plan_kept}
use Rattle.t0_core.specs.HostSide.{step_of}

abbrev get_data : Header
get_data = record { cla = 0x00; ins = 0xCA; p1 = 0x5F; p2 = 0x20 }

-- an object of six bytes, under the plan null, one, null, all
abbrev under_a_plan : Dialogue
under_a_plan = record {
  body = record {
    header = get_data;
    p3 = 6;
    direction = FromCard;
    segments = segments_of (Null ∷ One ∷ Null ∷ All ∷ []) 6;
    moved = 0x5F ∷ 0x20 ∷ 0x03 ∷ 0x4A ∷ 0x4F ∷ 0x45 ∷ [];
  };
  status = (0x90, 0x00);
}

with_nulls : characters under_a_plan ≡ sent_by Terminal (0x00 ∷ 0xCA ∷ 0x5F ∷ 0x20 ∷ 0x06 ∷ [])
    ++ sent_by Card (0x60 ∷ 0x35 ∷ 0x5F ∷ 0x60 ∷ 0xCA ∷ 0x20 ∷ 0x03 ∷ 0x4A ∷ 0x4F ∷ 0x45 ∷ 0x90
    ∷ 0x00 ∷ [])
with_nulls = refl

is_dialogue : IsDialogue under_a_plan
is_dialogue = record {
  moved_by_segments = refl;
  is_status = (refl, lit< tt);
  only_nulls =
      λ invalid. absurd (cc);
}

follows : Follows under_a_plan (record { steps = Null ∷ One ∷ Null ∷ All ∷ []; cut = 256 })
follows = record { all_or_nothing = inr refl; step_by_step = refl }

-- data to the card move between procedure bytes
abbrev put_two : Dialogue
put_two = record {
  body = record {
    header = record { cla = 0x00; ins = 0xDA; p1 = 0x5F; p2 = 0x20 };
    p3 =
        2;
    direction = ToCard;
    segments = One ∷ Null ∷ All ∷ [];
    moved = 0x41 ∷ 0x42 ∷ [];
  };
  status = (0x90, 0x00);
}

to_the_card : characters put_two ≡ sent_by Terminal (0x00 ∷ 0xDA ∷ 0x5F ∷ 0x20 ∷ 0x02 ∷ [])
    ++ sent_by Card (0x25 ∷ []) ++ sent_by Terminal (0x41 ∷ [])
    ++ sent_by Card (0x60 ∷ 0xDA ∷ []) ++ sent_by Terminal (0x42 ∷ [])
    ++ sent_by Card (0x90 ∷ 0x00 ∷ [])
to_the_card = refl

-- a header that is refused at once
abbrev refused : Dialogue
refused = record {
  body =
      record { header = get_data; p3 = 0; direction = FromCard; segments = []; moved = [] };
  status =
      (0x6C, 0x06);
}

refused_at_once : characters refused ≡ sent_by Terminal (0x00 ∷ 0xCA ∷ 0x5F ∷ 0x20 ∷ 0x00 ∷ [])
    ++ sent_by Card (0x6C ∷ 0x06 ∷ [])
refused_at_once = refl

refused_follows : Follows refused plain
refused_follows = record { all_or_nothing = inl refl; step_by_step = refl }

-- P3 00 means 256 from the card and none to the card
all_of_256 : segments_of [] 256 ≡ All ∷ []
all_of_256 = refl

nulls_alone : segments_of (One ∷ All ∷ Null ∷ []) 0 ≡ Null ∷ []
nulls_alone = refl

-- near miss: the last data character under `One` is no `All`
all_for_the_last_one : segments_of (One ∷ One ∷ []) 2 ≡ One ∷ All ∷ [] → ⊥
all_for_the_last_one is = absurd (cc)

-- near miss: part of the data
part_of_the_data : Follows
    (record {
      body = record {
        header = get_data;
        p3 = 6;
        direction = FromCard;
        segments =
            One ∷ [];
        moved = 0x5F ∷ [];
      };
      status = (0x90, 0x00);
    }) plain → ⊥
part_of_the_data follows = absurd (cc_of follows.step_by_step)
  where
    cc_of : One ∷ [] ≡ All ∷ [] → ⊥
    cc_of is = absurd (cc)

-- near miss: 6D is no valid INS, so the card's 6D 00 is its status
transfer_under_6D : (p3 : ℕ) (moved : List ℕ)
    → IsDialogue (record {
      body =
          record {
            header = record { cla = 0; ins = 0x6D; p1 = 0; p2 = 0 };
            p3 = p3;
            direction =
                FromCard;
            segments = All ∷ [];
            moved = moved;
          };
      status = (0x90, 0x00);
    }) → ⊥
transfer_under_6D p3 moved is = let all_is_null = (is.only_nulls refl).0 in absurd (cc)

-- the procedure bytes of CA, and a SW1, which is not one
kinds_of_CA : (step_of 0xCA 0x60 ≡ Some Null) × (step_of 0xCA 0xCA ≡ Some All)
    × (step_of 0xCA 0x35 ≡ Some One) × (step_of 0xCA 0x90 ≡ None)
kinds_of_CA = (refl, refl, refl, refl)

-- a cursor past its list keeps no plan
past_the_end : plan_kept
    (advanced (record { rest = []; kept = Some (record { steps = Null ∷ []; cut = 1 }) })) ≡ plain
past_the_end = refl

takes_the_next : plan_kept
    (advanced (record { rest = record { steps = Null ∷ []; cut = 1 } ∷ []; kept = None }))
    ≡ record { steps = Null ∷ []; cut = 1 }
takes_the_next = refl
