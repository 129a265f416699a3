-- What each function of the reader finds between two places. Words for inner functions.
use Rattle.std.specs.Prelude.{◌≡◌, ℕ, ◌+◌, ◌/◌, ◌%◌, ◌<◌, ◌≤◌, List, [], ◌∷◌, ◌++◌, length, drop, replicate, Option, Some, None, Result, Ok, Err, Bool, false}
use Rattle.atr_core.specs.Answer.{bit, before, group_before, from_indicator, names_other_than_0, AreInOrder, Answer, IsAnswer, characters}
use Rattle.atr_core.specs.FirstFault.{Due, Td, Plain, when, fault_from, first_fault}
use Rattle.atr_core.specs.declared.fault.AtrFault.{AtrFault}
use Rattle.atr_core.specs.declared.group.Group.{Group}
use Rattle.atr_core.specs.declared.group.TypedGroup.{TypedGroup}

-- a character at a place where an answer may have one
pub record IsAt (all : List ℕ) (place b : ℕ) : Type 0 where
  pub within : place < 33
  pub inside : place < length all
  pub split : drop place all ≡ b ∷ drop (place + 1) all

-- the first fault from a place on
abbrev pub fault_at : List ℕ → List Due → Option ℕ → Bool → ℕ → Option AtrFault
fault_at all due last checked place = fault_from all due last checked place (drop place all)

-- whatever character is expected at the place, this is its fault
abbrev pub Fails : List ℕ → ℕ → AtrFault → Type 0
Fails all place fault = (character : Due) (due : List Due) (last : Option ℕ) (checked : Bool)
    → fault_at all (character ∷ due) last checked place ≡ Some fault

-- whatever is expected afterwards, what is expected here has this fault
abbrev pub FailsBefore : List ℕ → ℕ → (List Due → List Due) → AtrFault → Type 0
FailsBefore all place dues fault = (due : List Due) (last : Option ℕ) (checked : Bool)
    → fault_at all (dues due) last checked place ≡ Some fault

-- whatever is expected afterwards, what is expected here is there, from one place to another
abbrev pub PassesBefore : List ℕ → ℕ → (List Due → List Due) → ℕ → Type 0
PassesBefore all place dues end = (due : List Due) (last : Option ℕ) (checked : Bool)
    → fault_at all (dues due) last checked place ≡ fault_at all due last checked end

pub record Ranges (all : List ℕ) (place end : ℕ) : Type 0 where
  pub forth : place ≤ end
  pub inside : end ≤ length all
  pub within : end ≤ 33

-- a character that is present exactly if this bit is 1
pub record HasMaybe (all : List ℕ) (place y : ℕ) (byte : Option ℕ) (end : ℕ) : Type 0 where
  pub ranges : Ranges all place end
  pub is : bit byte ≡ y
  pub split : drop place all ≡ before byte (drop end all)
  pub passes : PassesBefore all place (when y Plain) end

-- TA, TB and TC that Y announces
abbrev pub group_due : ℕ → List Due → List Due
group_due y due = when (y % 2) Plain (when (y / 2 % 2) Plain (when (y / 4 % 2) Plain due))

pub record HasGroup (all : List ℕ) (place y : ℕ) (g : Group) (end : ℕ) : Type 0 where
  pub ranges : Ranges all place end
  pub ta : bit g.ta ≡ y % 2
  pub tb : bit g.tb ≡ y / 2 % 2
  pub tc : bit g.tc ≡ y / 4 % 2
  pub split : drop place all ≡ group_before g (drop end all)
  pub passes : PassesBefore all place (group_due y) end

-- the groups that TDs announce, the first TD included, before other characters
abbrev pub groups_before : List TypedGroup → List ℕ → List ℕ
groups_before [] rest = rest
groups_before (n ∷ ns) rest = from_indicator n.t n.group ns rest

-- 1 if there is a group
abbrev pub more : List TypedGroup → ℕ
more [] = 0
more (n ∷ ns) = 1

-- all groups that TDs announce, the first if Y announces a TD
pub record HasGroups (all : List ℕ) (place y : ℕ) (others : List TypedGroup) (end : ℕ)
    : Type 0 where
  pub ranges : Ranges all place end
  pub is : more others ≡ y / 8
  pub in_order : AreInOrder None others
  pub split : drop place all ≡ groups_before others (drop end all)
  pub last : Option ℕ
  pub passes : (due : List Due) → fault_at all (when (y / 8) Td due) None false place
      ≡ fault_at all due last (names_other_than_0 others) end

-- k historical bytes
pub record HasHistorical (all : List ℕ) (place k : ℕ) (historical : List ℕ) (end : ℕ)
    : Type 0 where
  pub ranges : Ranges all place end
  pub size : length historical ≡ k
  pub split : drop place all ≡ historical ++ drop end all
  pub passes : (last : Option ℕ) (checked : Bool)
      → fault_at all (replicate k Plain) last checked place ≡ fault_at all [] last checked end

-- from the first TD on, this is the first fault
abbrev pub FailsAtGroups : List ℕ → ℕ → ℕ → AtrFault → Type 0
FailsAtGroups all place y fault = (due : List Due)
    → fault_at all (when (y / 8) Td due) None false place ≡ Some fault

-- from the first historical byte on, this is the first fault
abbrev pub FailsAtHistorical : List ℕ → ℕ → ℕ → AtrFault → Type 0
FailsAtHistorical all place k fault = (last : Option ℕ) (checked : Bool)
    → fault_at all (replicate k Plain) last checked place ≡ Some fault

-- the error is this fault, if there is one
abbrev pub SaysFault : Result (Unit {0}) AtrFault → Option AtrFault → Type 0
SaysFault (Ok _) fault = fault ≡ None
SaysFault (Err found) fault = fault ≡ Some found

-- The value read is an answer, its characters are the bytes, and they have no fault.
pub record IsWhole (all : List ℕ) (a : Answer) : Type 0 where
  pub answer : IsAnswer a
  pub is : all ≡ characters a
  pub none : first_fault all ≡ None
