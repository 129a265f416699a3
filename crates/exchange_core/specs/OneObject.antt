-- Bytes that are one object (EMV Book 3, Annex B).
use Rattle.std.specs.Prelude.{◌≡◌, ℕ, List, ◌++◌, length}
use Rattle.tlv_core.specs.TagForm.{IsTag}
use Rattle.tlv_core.specs.Length.{SpellsLength}
use Rattle.tlv_core.specs.Spelling.{AreObjects}
use Rattle.tlv_core.specs.Object.{Object}

-- its tag, its length as spelled and its value, without padding around them
pub record IsOneObject (bytes : List ℕ) (object : Object) : Type 0 where
  pub whole : bytes ≡ object.tag ++ object.size ++ object.value
  pub are_objects : AreObjects bytes 1
  pub is_tag : IsTag object.tag
  pub is_size : SpellsLength object.size (length object.value)
  pub outermost : object.level ≡ 1
