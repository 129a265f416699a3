use Rattle.std.proofs.Common.{[], refl, sym, ◌∙◌, inl, append-nil}
use Rattle.exchange_core.specs.CuttingLaws.{at_end, comes, is_whole}
use Rattle.exchange_core.proofs.laws.a_whole_exchange_is_done.Goals as goal

pub returns : goal.returns
returns c = λ command came ex units gathered status valid small leads gathers are is.
    at_end (comes (is_whole small gathers are) came ex [] leads (inl refl)
    (sym is ∙ sym (append-nil came)))
