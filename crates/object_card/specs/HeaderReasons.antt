-- The order in which the code looks for reasons to refuse a header.
use Rattle.std.specs.Prelude.{List, [], ◌∷◌}
use Rattle.object_card.specs.Refusals.{Reason, UnknownClass, UnknownInstruction, NotChained, WrongParameters, NoApplicationSelected, NoResponsePending, LockedEntry, NoSuchObject, ValueTooLong, NoIdentifier, MoreThanIsLeft}

-- the reasons that depend on the header alone
abbrev pub of_form : List Reason
of_form = UnknownClass ∷ UnknownInstruction ∷ NotChained ∷ WrongParameters ∷ []

-- those that depend on the card's state
abbrev pub of_state : List Reason
of_state = NoApplicationSelected ∷ NoResponsePending ∷ LockedEntry ∷ NoSuchObject ∷ ValueTooLong
    ∷ NoIdentifier ∷ MoreThanIsLeft ∷ []
