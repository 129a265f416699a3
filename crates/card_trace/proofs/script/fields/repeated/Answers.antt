-- Digits that do not decode into one byte are no HH.
use Rattle.std.proofs.Common.{◌∷◌, [], refl, ◌∙◌}
use Rattle.card_trace.proofs.ScriptFieldLemmas.{sized_of}
use Rattle.card_trace.proofs.script.fields.repeated.Goals as goal

pub returns-in_default-clause-refused : goal.returns-in_default-clause-refused
returns-in_default-clause-refused g c = (
  refl,
  λ value h.
      c.in_default.not-Ok (h.byte ∷ [])
      (c.from_hex.ensures ∙ sized_of c.args.digits.now h.byte h.hex),
)
