-- What a mask shows of data. It hides those of some commands, and objects with some tags.
use Rattle.std.specs.Prelude.{◌≡◌, ◌<◌, ℕ, List, [], ◌∷◌, length, Bool, true, false, not, ◌==◌, ◌&&◌, ◌||◌, nat_lt, if◌then◌else◌}
use Rattle.std.specs.List.{Contains}
use Rattle.apdu_core.specs.declared.header.Header.{Header}
use Rattle.t0_core.specs.declared.direction.Direction.{Direction}
use Rattle.t0_core.specs.declared.direction.Direction.TheVariants.{ToCard, FromCard}
use Rattle.tlv_core.specs.Address.{NamesTag}
use Rattle.tlv_core.specs.TagForm.{is_constructed}
use Rattle.trace_explain.specs.declared.describe.mask.Origin.{Origin}
use Rattle.trace_explain.specs.declared.describe.mask.Shown.{Shown}
use Rattle.trace_explain.specs.declared.describe.mask.Shown.TheVariants.{All, Objects, Nothing}
use Rattle.trace_explain.specs.WaysOf.{interindustry_brings_none, is_among, sim_brings_none}

-- Reference data: VERIFY, CHANGE REFERENCE DATA, DISABLE and ENABLE VERIFICATION REQUIREMENT, and
-- RESET RETRY COUNTER. Keys: PUT KEY of GlobalPlatform. Of any class, with data of any form.
abbrev pub is_secret : ℕ → Bool
is_secret ins = is_among ins
    (0x20 ∷ 0x21 ∷ 0x24 ∷ 0x25 ∷ 0x26 ∷ 0x28 ∷ 0x2C ∷ 0x2D ∷ 0xD8 ∷ [])

-- Data of ENVELOPE (C2) are a command, those of C3 an object that contains one. They may be secret
-- if its INS is, the second byte of C2. In C3, and behind other parts, that is unknown.
abbrev pub carries_secret : Direction → ℕ → Bool → ℕ → Bool
carries_secret ToCard ins continues inner =
    (ins == 0xC3) || ((ins == 0xC2) && (continues || is_secret inner))
carries_secret FromCard ins continues inner = false

-- Data may be secret, also those behind a loose header.
abbrev pub has_secret : Origin → Bool
has_secret o = o.is_loose || is_secret o.header.ins
    || carries_secret o.way o.header.ins o.continues o.inner

-- Data may begin or end within an object: parts of a file or record after its start, the data of a
-- GET RESPONSE that stands alone, and of ENVELOPE.
abbrev pub may_be_cut : Header → Bool
may_be_cut h = if is_among h.ins (0x0E ∷ 0xB0 ∷ 0xD0 ∷ 0xD6 ∷ [])
    then (not (h.p2 == 0) || (nat_lt h.p1 0x80 && not (h.p1 == 0)))
    else is_among h.ins (0xB1 ∷ 0xB3 ∷ 0xC0 ∷ 0xC2 ∷ 0xC3 ∷ 0xD1 ∷ 0xD7 ∷ 0xDD ∷ [])

-- Secure messaging by bits 4-3 of the first interindustry classes, and bit 6 of the further ones
-- (ISO/IEC 7816-4, 5.4.1).
abbrev pub has_messaging : ℕ → Bool
has_messaging cla = (nat_lt 0x03 cla && nat_lt cla 0x10) || (nat_lt 0x13 cla && nat_lt cla 0x20)
    || (nat_lt 0x5F cla && nat_lt cla 0x80)

-- The answer to this CLA and INS never has data.
abbrev pub brings_none : ℕ → ℕ → Bool
brings_none cla ins = if nat_lt cla 0x80
    then not (has_messaging cla) && is_among ins interindustry_brings_none
    else (cla == 0xA0) && is_among ins sim_brings_none

-- SELECT has a name or a path, without secure messaging
abbrev pub is_name : Header → Direction → Bool
is_name h ToCard = (h.ins == 0xA4) && not (has_messaging h.cla)
is_name h FromCard = false

-- P1-P2 of GET DATA and PUT DATA name an object
abbrev pub NamesObject : Header → List ℕ → Type 0
NamesObject h tag = (is_among h.ins (0xCA ∷ 0xDA ∷ []) ≡ true) × NamesTag tag h.p1 h.p2

-- Data may be objects, or parts of objects. Parts are hidden.
abbrev pub whole_or_nothing : Bool → Shown
whole_or_nothing is_part = if is_part then Nothing else Objects

-- the value of an object with this tag
pub record ShowsValue (tags : List (List ℕ)) (tag : List ℕ) (continues goes_on : Bool)
    (shown : Shown) : Type 0 where
  pub masked : Contains tags tag → shown ≡ Nothing
  pub primitive : (Contains tags tag → ⊥) → is_constructed tag ≡ false
      → shown ≡ (if continues || goes_on then Nothing else All)
  pub template : (Contains tags tag → ⊥) → is_constructed tag ≡ true
      → shown ≡ whole_or_nothing continues

-- data that are not secret, with tags
pub record ShowsTagged (tags : List (List ℕ)) (o : Origin) (shown : Shown) : Type 0 where
  pub name : is_name o.header o.way ≡ true → shown ≡ All
  pub named : is_name o.header o.way ≡ false → (t : List ℕ) → NamesObject o.header t
      → (tag : List ℕ) × NamesObject o.header tag × ShowsValue tags tag o.continues o.goes_on shown
  pub others : is_name o.header o.way ≡ false → ((tag : List ℕ) → NamesObject o.header tag → ⊥)
      → shown ≡ whole_or_nothing (o.continues || may_be_cut o.header)

-- Without a mask all data are shown. A mask hides secret data. Without tags it shows all others.
pub record Shows (hides : Bool) (tags : List (List ℕ)) (o : Origin) (shown : Shown) : Type 0 where
  pub all : hides ≡ false → shown ≡ All
  pub secret : hides ≡ true → has_secret o ≡ true → shown ≡ Nothing
  pub no_tags : hides ≡ true → has_secret o ≡ false → tags ≡ [] → shown ≡ All
  pub tagged : hides ≡ true → has_secret o ≡ false → 0 < length tags
      → ShowsTagged tags o shown
