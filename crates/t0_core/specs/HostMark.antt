-- A terminal's end without its data, and with them again.
use Rattle.std.specs.Prelude.{◌≡◌, ℕ, List, []}
use Rattle.t0_core.specs.declared.direction.Direction.{Direction}
use Rattle.t0_core.specs.declared.direction.Direction.TheVariants.{ToCard, FromCard}
use Rattle.t0_core.specs.declared.host_mark.HostMark.{HostMark}
use Rattle.t0_core.specs.HostSide.{Hosting}

-- the data of an end: all of these if it sends, none if it asks the card
abbrev pub own_data : Direction → List ℕ → List ℕ
own_data ToCard content = content
own_data FromCard content = []

-- the end has no data other than these
abbrev pub HasOnly : List ℕ → Hosting → Type 0
HasOnly content host = host.content ≡ own_data host.direction content

-- the end with this progress and these data
abbrev pub with_data : HostMark → List ℕ → Hosting
with_data mark content =
    record {
      header = mark.header;
      p3 = mark.p3;
      direction = mark.direction;
      content = own_data mark.direction content;
      stage = mark.stage;
    }
