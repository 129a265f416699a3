-- The texts of errors.
use Rattle.std.specs.Prelude.{ℕ, List, ◌++◌, codes, decimal}
use Rattle.tlv_core.specs.declared.fault.Reason.{Reason}
use Rattle.tlv_core.specs.declared.fault.Reason.TheVariants.{TagCut, TagForm, LengthCut, LengthForm, ValueCut, TooDeep}
use Rattle.tlv_core.specs.declared.fault.TlvFault.{TlvFault}
use Rattle.tlv_core.specs.declared.build_fault.BuildFault.{BuildFault}
use Rattle.tlv_core.specs.declared.build_fault.BuildFault.TheVariants as build
use Rattle.tlv_core.specs.declared.read_fault.ReadFault.{ReadFault}
use Rattle.tlv_core.specs.declared.read_fault.ReadFault.TheVariants as read

-- why no object is at a place
abbrev pub reason_text : Reason → List ℕ
reason_text TagCut = codes "TagCut"
reason_text TagForm = codes "TagForm"
reason_text LengthCut = codes "LengthCut"
reason_text LengthForm = codes "LengthForm"
reason_text ValueCut = codes "ValueCut"
reason_text TooDeep = codes "TooDeep"

-- the reason and its place
abbrev pub fault_text : TlvFault → List ℕ
fault_text fault = reason_text fault.reason ++ codes " at " ++ decimal fault.place

-- why an object cannot be added
abbrev pub build_text : BuildFault → List ℕ
build_text build.WrongKind = codes "wrong kind of tag"
build_text build.TooLong = codes "content too long"
build_text build.TooDeep = codes "too deep"
build_text build.OutOfMemory = codes "out of memory"

-- why no forest was read
abbrev pub read_text : ReadFault → List ℕ
read_text (read.Tlv fault) = fault_text fault
read_text read.OutOfMemory = codes "out of memory"
