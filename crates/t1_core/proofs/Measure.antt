-- A bound on the number of exchanges that are left.
use Rattle.std.proofs.Common.{◌≡◌, refl, sym, ap, subst, ℕ, zero, suc, ◌+◌, ◌-◌, ◌*◌, ◌/◌, ◌≤◌, Bool, true, false, List, [], ◌∷◌, ◌++◌, length, take, drop, length-drop, Option, Some, append_assoc, append-nil, arith}
use Rattle.std.proofs.lemmas.List.{take-append-drop}
use Rattle.std.proofs.lemmas.Nat.{le-div}
use Rattle.std.proofs.Math.Nat.{suc-mul, mul-le-mul_left, mul-le-mul_right, div-eq-sub-div, div-mul-le_self}
use Rattle.t1_core.specs.declared.line.Fate.{Fate}
use Rattle.t1_core.specs.declared.line.Fate.TheVariants.{Delivers, Damages, Loses}
use Rattle.t1_core.specs.declared.line.Fates.{Fates}
use Rattle.t1_core.specs.declared.pcb.BlockReason.{BlockReason}
use Rattle.t1_core.specs.declared.pcb.BlockReason.TheVariants.{NoError, Edc, Other}
use Rattle.t1_core.specs.declared.settings.Settings.{Settings}
use Rattle.t1_core.specs.declared.terminal.Cause.{Cause}
use Rattle.t1_core.specs.declared.terminal.Cause.TheVariants.{TriesSpent, ExtensionsSpent}
use Rattle.t1_core.specs.declared.terminal.Out.{Out}
use Rattle.t1_core.specs.Block.{other, is_size}
use Rattle.t1_core.specs.CardSide.{Meaning, first_ifsd}
use Rattle.t1_core.specs.TerminalSide.{has_stopped}
use Rattle.t1_core.specs.World.{World, run, start, blocks, size_after, all_blocks, most_exchanges}
use Rattle.t1_core.proofs.Places.{Kept, Spot, Place, Going, Opens, Behind, Taken, Waits, Grows, Between, Sent, Given_up, Finished, uses, proceeds, starts, out_at, world_of, runs, heard, misses, comes, comes_next, numbered, is_long, grows, garbled_by, shorter, and_rest, begins, step, is_step}
use Rattle.t1_core.proofs.Holding.{Holds, HoldsAt, heard_holds, step_holds, first, first_is, first_holds}

as_le : (x y : ℕ) → x ≡ y → x ≤ y
as_le x y e = omega (arith, e)

sooner : (x r s y z : ℕ) → x ≡ r + y + z → r + 1 ≤ s → x + 1 ≤ s + y + z
sooner x r s y z e le = omega (arith, e, le)

one_more : (x z : ℕ) → x + z + 1 ≤ x + 1 + z
one_more x z = omega arith

le_plus : (x y z : ℕ) → x ≤ y → x + z ≤ y + z
le_plus x y z le = omega (arith, le)

-- one step fewer saves all tries of that step
pub weigh : (x y t : ℕ) → x + 1 ≤ y → x * t + t ≤ y * t
weigh x y t le =
    let e : suc x * t ≡ x * t + t = suc-mul x t in
    subst (λ n. n ≤ y * t) e (mul-le-mul_right t (omega (arith, le)))

-- the number of blocks for these bytes; none for no bytes
abbrev more_blocks : ℕ → ℕ → ℕ
more_blocks size zero = 0
more_blocks size (suc n) = blocks size (suc n)

plus_one : (n : ℕ) → 1 ≤ n + 1
plus_one n = omega arith

some_blocks : (size n : ℕ) → 1 ≤ blocks size n
some_blocks size zero = omega arith
some_blocks size (suc n) = plus_one (n / size)

one_sooner : (x y z : ℕ) → x ≡ y + 1 → z ≡ y → z + 1 + 1 ≤ x + 1
one_sooner x y z e f = omega (arith, e, f)

cut_less : (size n d : ℕ) → 1 ≤ size → n - size ≡ d → more_blocks size d + 1 ≤ blocks size n
cut_less size n zero some e = some_blocks size n
cut_less size zero (suc d) some e = absurd (omega (arith, e))
cut_less size (suc n) (suc d) some e =
    one_sooner (n / size) ((n - size) / size) (d / size)
    (div-eq-sub-div (omega (arith, some)) (omega (arith, e)))
    (ap (λ k. k / size) (omega (arith, e)))

-- longer fields, fewer blocks
blocks_fewer : (short size n : ℕ) → 1 ≤ short → short ≤ size → blocks size n ≤ blocks short n
blocks_fewer short size zero some le = omega arith
blocks_fewer short size (suc n) some le =
    let many : n / size * short ≤ n / size * size = mul-le-mul_left (n / size) le in
    let all : n / size * size ≤ n = div-mul-le_self n size in
    let less : n / size ≤ n / short =
    le-div (n / size) n short (omega (arith, some)) (omega (arith, many, all)) in
    omega (arith, less)

-- the first field is one of them
drop_less : (size : ℕ) (bytes : List ℕ) → 1 ≤ size
    → more_blocks size (length (drop size bytes)) + 1 ≤ blocks size (length bytes)
drop_less size bytes some =
    cut_less size (length bytes) (length (drop size bytes)) some (sym (length-drop size bytes))

abbrev two : List ℕ → List ℕ → List ℕ × List ℕ
two field rest = (field, rest)

-- a field that is short enough stays as it is
stays_cut : (size : ℕ) (field rest : List ℕ) → length field ≤ size
    → two (take size field ++ (drop size field ++ rest)) (drop size field ++ rest)
    ≡ two (field ++ rest) rest
stays_cut zero [] rest le = refl
stays_cut zero (b ∷ field) rest le = absurd (omega (arith, le))
stays_cut (suc n) [] rest le = refl
stays_cut (suc n) (b ∷ field) rest le =
    ap (λ x. two (b ∷ x.0) x.1) (stays_cut n field rest (omega (arith, le)))

module _ (m : Meaning) (before commands : List (List ℕ)) where
  -- the blocks left of a command in progress, and of everything after it
  abbrev ahead : Kept → List ℕ → ℕ → ℕ
  ahead k command rest =
      rest + blocks first_ifsd (length (m.does (before ++ (k.done ++ command ∷ []))))
      + all_blocks m (size_after (m.asks (before ++ (k.done ++ command ∷ []))).size k.size)
      (before ++ (k.done ++ command ∷ [])) k.todo

  -- the same of a response
  abbrev behind : Kept → ℕ → ℕ → ℕ
  behind k size rest = rest + all_blocks m size (before ++ k.done) k.todo

  abbrev weight : Kept → (blocks tries extensions : ℕ) → ℕ
  weight k blocks tries extensions =
      blocks * (k.settings.tries + 1) + tries + extensions + length k.todo * k.settings.extensions

  abbrev response : Kept → List ℕ → ℕ
  response k rest = more_blocks k.ifsd (length rest) + 1

  abbrev blocks_left : Kept → Spot → ℕ
  blocks_left k (Opens rest asks) =
      ahead k (k.field ++ rest) (blocks k.size (length (k.field ++ rest)))
  blocks_left k (Behind asks collected rest answering) =
      ahead k (collected ++ (k.field ++ rest)) (more_blocks k.size (length rest))
  blocks_left k (Taken collected b bytes) =
      ahead k (collected ++ (b ∷ bytes)) (more_blocks k.size (length (b ∷ bytes)))
  blocks_left k (Waits rest n size granted) =
      behind k (size_after size k.size) (response k rest)
  blocks_left k (Grows rest size granted) = behind k size (response k rest)
  blocks_left k (Between got b bytes) =
      behind k k.size (more_blocks k.ifsd (length (b ∷ bytes)))
  blocks_left k (Sent first got rest) = behind k k.size (response k rest)

  abbrev measure : Place → ℕ
  measure (Given_up w cause) = 0
  measure (Finished w) = 0
  measure (Going k s why tries extensions) = weight k (blocks_left k s) tries extensions

  some_weight : (k : Kept) (x tries extensions : ℕ) → 1 ≤ x → 1 ≤ weight k x tries extensions
  some_weight k x tries extensions some =
      let w = weigh 0 x (k.settings.tries + 1) (omega (arith, some)) in omega (arith, w)

  less_weight : (k : Kept) (x y tries extensions : ℕ) → x ≤ y
      → weight k x tries extensions ≤ weight k y tries extensions
  less_weight k x y tries extensions le =
      let w = mul-le-mul_right (k.settings.tries + 1) le in omega (arith, w)

  -- progress
  step_weight : (k : Kept) (x y tries extensions : ℕ) → x + 1 ≤ y
      → weight k x k.settings.tries extensions + 1 ≤ weight k y tries extensions
  step_weight k x y tries extensions le =
      let w = weigh x y (k.settings.tries + 1) le in omega (arith, w)

  some_ahead : (rest n later : ℕ) → 1 ≤ rest + blocks first_ifsd n + later
  some_ahead rest n later = let s = some_blocks first_ifsd n in omega (arith, s)

  some_behind : (rest later : ℕ) → 1 ≤ rest + 1 + later
  some_behind rest later = omega arith

  some_left : (k : Kept) (s : Spot) (why : BlockReason) (tries extensions : ℕ)
      → 1 ≤ measure (Going k s why tries extensions)
  some_left k (Opens rest asks) why tries extensions =
      some_weight k _ tries extensions (some_ahead _ _ _)
  some_left k (Behind asks collected rest answering) why tries extensions =
      some_weight k _ tries extensions (some_ahead _ _ _)
  some_left k (Taken collected b bytes) why tries extensions =
      some_weight k _ tries extensions (some_ahead _ _ _)
  some_left k _ why tries extensions = some_weight k _ tries extensions (some_behind _ _)

  uses_less : (cause : Cause) (n : ℕ) (w : World) (again : ℕ → Place) (most : ℕ) → 1 ≤ most
      → ((i : ℕ) → i + 1 ≡ n → measure (again i) + 1 ≤ most)
      → measure (uses cause n w again) + 1 ≤ most
  uses_less cause zero w again most some h = omega (arith, some)
  uses_less cause (suc n) w again most some h = h n (omega arith)

  -- the terminal begins to send a command
  begins_less : (k : Kept) (rest : List ℕ) (tries extensions : ℕ) → 1 ≤ k.size
      → measure (begins k rest extensions) + 1
      ≤ weight k (ahead k (k.field ++ rest) (blocks k.size (length (k.field ++ rest)))) tries
      extensions
  begins_less k rest tries extensions some =
      let bytes : List ℕ = k.field ++ rest in
      let next : Kept = record k { field = take k.size bytes } in
      let left : ℕ = more_blocks k.size (length (drop k.size bytes)) in
      let e : ahead next (take k.size bytes ++ drop k.size bytes) left ≡ ahead next bytes left =
      ap (λ x. ahead next x left) (take-append-drop k.size bytes) in
      step_weight k (ahead next (take k.size bytes ++ drop k.size bytes) left)
      (ahead k bytes (blocks k.size (length bytes))) tries extensions
      (sooner _ _ _ _ _ e (drop_less k.size bytes some))

  misses_less : (why : BlockReason) (out : Out) (k : Kept) (s : Spot) (tries extensions : ℕ)
      → 1 ≤ k.size → measure (misses m before why out k s tries extensions) + 1
      ≤ measure (Going k s why tries extensions)
  misses_less why out k (Opens rest asks) zero extensions some =
      begins_less k rest zero extensions some
  misses_less why out k (Opens rest asks) (suc n) extensions some = omega arith
  misses_less why out k (Sent first got rest) tries extensions some =
      uses_less TriesSpent tries _ _ _ (some_left k (Sent first got rest) why tries extensions)
      (λ i e. omega (arith, e))
  misses_less why out k s tries extensions some =
      uses_less TriesSpent tries _ _ _ (some_left k s why tries extensions)
      (λ i e. omega (arith, e))

  starts_le : (k : Kept) (rest : List ℕ) (n : ℕ) (size : Option ℕ) (tries extensions most : ℕ)
      → weight k (behind k (size_after size k.size) (response k rest)) tries extensions ≤ most
      → measure (Going k (starts rest n size) NoError tries extensions) ≤ most
  starts_le k rest zero (Some size) tries extensions most le = le
  starts_le k rest _ _ tries extensions most le = le

  -- the card has carried out the command, so its response counts
  runs_le : (ifsd later n : ℕ) (bytes : List ℕ) → first_ifsd ≤ ifsd
      → more_blocks ifsd (length (drop ifsd bytes)) + 1 + later
      ≤ 0 + blocks first_ifsd (length bytes) + later
  runs_le ifsd later n bytes e =
      let le : more_blocks ifsd (length (drop ifsd bytes)) + 1 ≤ blocks ifsd (length bytes) =
      drop_less ifsd bytes (omega (arith, e)) in
      let fewer = blocks_fewer first_ifsd ifsd (length bytes) (omega arith) e in
      omega (arith, le, fewer)

  heard_le : (k : Kept) (s : Spot) (tries extensions : ℕ) → Holds m before commands k s
      → measure (Going (heard m before k s).0 (heard m before k s).1 NoError tries extensions)
      ≤ measure (Going k s NoError tries extensions)
  heard_le k (Behind false collected [] answering) tries extensions h =
      let command : List ℕ = collected ++ k.field in
      let done : List (List ℕ) = k.done ++ command ∷ [] in
      let bytes : List ℕ = m.does (before ++ done) in
      let size : ℕ = size_after (m.asks (before ++ done)).size k.size in
      let e : weight k (ahead k (collected ++ (k.field ++ [])) 0) tries extensions ≡ weight k
      (ahead k command 0) tries extensions =
      ap (λ f. weight k (ahead k (collected ++ f) 0) tries extensions) (append-nil k.field) in
      starts_le (runs m before k done) (drop k.ifsd bytes)
      (m.asks (before ++ done)).extensions (m.asks (before ++ done)).size tries extensions _
      (subst (λ n. weight k (behind (runs m before k done) size
      (response k (drop k.ifsd bytes))) tries extensions ≤ n) (sym e)
      (less_weight k (behind (runs m before k done) size (response k (drop k.ifsd bytes)))
      (ahead k command 0) tries extensions
      (runs_le k.ifsd (all_blocks m size (before ++ done) k.todo) 0 bytes h.2)))
  heard_le k (Behind false collected (b ∷ bytes) answering) tries extensions h =
      let rest : ℕ = more_blocks k.size (length (b ∷ bytes)) in
      as_le _ _ (ap (λ c. weight k (ahead k c rest) tries extensions)
      (append_assoc collected k.field (b ∷ bytes)))
  heard_le k (Waits rest n size true) tries extensions h =
      starts_le k rest n size tries extensions _ (as_le _ _ refl)
  heard_le k (Grows rest size true) tries extensions h =
      as_le _ _ (ap (λ n. weight k (behind k n (response k rest)) tries extensions) h.3)
  heard_le k (Between got b bytes) tries extensions h =
      let e : first_ifsd ≤ k.ifsd = h.2 in
      less_weight k (behind k k.size (response k (drop k.ifsd (b ∷ bytes))))
      (behind k k.size (more_blocks k.ifsd (length (b ∷ bytes)))) tries extensions
      (le_plus _ _ _ (drop_less k.ifsd (b ∷ bytes) (omega (arith, e))))
  heard_le k (Sent first got rest) tries extensions h =
      as_le _ _ (ap (λ r. weight k (behind k k.size (response k r)) tries extensions)
      (ap (λ x. x.1) (stays_cut k.ifsd k.last rest h.4)))
  heard_le k _ tries extensions h = as_le _ _ refl

  -- the next command, after an answer
  proceeds_less : (k : Kept) (todo : List (List ℕ)) (w : World) (tries extensions : ℕ) → 1 ≤ k.size
      → measure (proceeds k todo w) + 1
      ≤ (0 + 1 + all_blocks m k.size (before ++ k.done) todo) * (k.settings.tries + 1) + tries
      + extensions + length todo * k.settings.extensions
  proceeds_less k [] w tries extensions some =
      let w = weigh 0 (1 + 0) (k.settings.tries + 1) (omega arith) in omega (arith, w)
  proceeds_less k (c ∷ cs) w tries extensions some =
      let many = suc-mul (length cs) k.settings.extensions in
      let next : Kept = record k { todo = cs; field = take k.size c } in
      let rest : ℕ = more_blocks k.size (length (drop k.size c)) in
      let less = drop_less k.size c some in
      let e : ahead next (take k.size c ++ drop k.size c) rest ≡ ahead next c rest =
      ap (λ x. ahead next x rest) (take-append-drop k.size c) in
      let same : all_blocks m k.size (before ++ k.done) (c ∷ cs)
      ≡ blocks k.size (length c)
      + blocks first_ifsd (length (m.does (before ++ (k.done ++ c ∷ []))))
      + all_blocks m (size_after (m.asks (before ++ (k.done ++ c ∷ []))).size k.size)
      (before ++ (k.done ++ c ∷ [])) cs =
      ap (λ r. blocks k.size (length c) + blocks first_ifsd (length (m.does r))
      + all_blocks m (size_after (m.asks r).size k.size) r cs)
      (append_assoc before k.done (c ∷ [])) in
      let w = weigh (ahead next (take k.size c ++ drop k.size c) rest)
      (0 + 1 + all_blocks m k.size (before ++ k.done) (c ∷ cs)) (k.settings.tries + 1)
      (omega (arith, e, same, less)) in
      omega (arith, w, many)

  grows_less : (v : Bool) (out : Out) (k : Kept) (rest : List ℕ) (size : ℕ) (granted : Bool)
      (tries extensions : ℕ)
      → 1 ≤ k.size → measure (grows m before v out k rest size granted tries extensions) + 1
      ≤ measure (Going k (Grows rest size granted) NoError tries extensions)
  grows_less true out k rest size granted tries extensions some =
      uses_less ExtensionsSpent extensions _ _ _
      (some_left k (Grows rest size granted) NoError tries extensions) (λ i e. omega (arith, e))
  grows_less false out k rest size granted tries extensions some =
      misses_less Other out k (Grows rest size granted) tries extensions some

  next_less : (v : Bool) (out : Out) (k : Kept) (got rest : List ℕ) (tries extensions : ℕ)
      → 1 ≤ k.size → measure (comes_next m before v out k got rest tries extensions) + 1
      ≤ measure (Going k (Sent false got rest) NoError tries extensions)
  next_less true out k got rest tries extensions some =
      some_left k (Sent false got rest) NoError tries extensions
  next_less false out k got [] tries extensions some =
      proceeds_less (record k { due = other k.due; answers = k.answers ++ (got ++ k.last) ∷ [] })
      k.todo _ tries extensions some
  next_less false out k got (b ∷ bytes) tries extensions some =
      step_weight k (behind k k.size (more_blocks k.ifsd (length (b ∷ bytes))))
      (behind k k.size (response k (b ∷ bytes))) tries extensions (one_more _ _)

  comes_less : (out : Out) (k : Kept) (s : Spot) (tries extensions : ℕ)
      → Holds m before commands k s
      → measure (comes m before out k s tries extensions) + 1
      ≤ measure (Going k s NoError tries extensions)
  comes_less out k (Opens rest asks) tries extensions h =
      begins_less k rest tries extensions h.1
  comes_less out k (Behind asks collected rest answering) tries extensions h =
      let same = stays_cut k.size k.field rest h.3 in
      let e : ahead (shorter k) (collected ++ (take k.size k.field ++ and_rest k rest))
      (more_blocks k.size (length (and_rest k rest)))
      ≡ ahead k (collected ++ (k.field ++ rest)) (more_blocks k.size (length rest)) =
      ap (λ x. ahead k (collected ++ x.0) (more_blocks k.size (length x.1))) same in
      uses_less TriesSpent tries _ _ _
      (some_left k (Behind asks collected rest answering) NoError tries extensions)
      (λ i is.
      let w = ap (λ x. x * (k.settings.tries + 1)) e in omega (arith, is, w))
  comes_less out k (Taken collected b bytes) tries extensions h =
      let next : Kept = record k { field = take k.size (b ∷ bytes); number = other k.number } in
      let rest : ℕ = more_blocks k.size (length (drop k.size (b ∷ bytes))) in
      let e : ahead next (collected ++ (take k.size (b ∷ bytes) ++ drop k.size (b ∷ bytes))) rest
      ≡ ahead next (collected ++ (b ∷ bytes)) rest =
      ap (λ x. ahead next (collected ++ x) rest) (take-append-drop k.size (b ∷ bytes)) in
      step_weight k
      (ahead next (collected ++ (take k.size (b ∷ bytes) ++ drop k.size (b ∷ bytes))) rest)
      (ahead k (collected ++ (b ∷ bytes)) (more_blocks k.size (length (b ∷ bytes)))) tries
      extensions (sooner _ _ _ _ _ e (drop_less k.size (b ∷ bytes) h.1))
  comes_less out k (Waits rest n size granted) tries extensions h =
      uses_less ExtensionsSpent extensions _ _ _
      (some_left k (Waits rest n size granted) NoError tries extensions)
      (λ i e. omega (arith, e))
  comes_less out k (Grows rest size granted) tries extensions h =
      grows_less (is_size size) out k rest size granted tries extensions h.1
  comes_less out k (Between got b bytes) tries extensions h =
      misses_less Other out k (Between got b bytes) tries extensions h.1
  comes_less out k (Sent first got rest) tries extensions h =
      next_less (is_long k got) out (numbered first k) got rest tries extensions h.1

  -- the card's reply does not arrive
  replied_less : (now : BlockReason) (out : Out) (k : Kept) (s : Spot) (tries extensions : ℕ)
      → Holds m before commands k s
      → measure
      (misses m before now out (heard m before k s).0 (heard m before k s).1 tries extensions) + 1
      ≤ measure (Going k s NoError tries extensions)
  replied_less now out k s tries extensions h =
      let le = heard_le k s tries extensions h in
      let less = misses_less now out (heard m before k s).0 (heard m before k s).1 tries extensions
      (heard_holds m before commands k s h).1 in
      omega (arith, le, less)

  step_less : (down up : Fate) (k : Kept) (s : Spot) (why : BlockReason) (tries extensions : ℕ)
      → Holds m before commands k s
      → measure (step m before down up (Going k s why tries extensions)) + 1
      ≤ measure (Going k s why tries extensions)
  step_less Delivers Delivers k s why tries extensions h =
      let le = heard_le k s tries extensions h in
      let less = comes_less (out_at k s why) (heard m before k s).0 (heard m before k s).1 tries
      extensions (heard_holds m before commands k s h) in
      omega (arith, le, less)
  step_less Delivers Damages k s why tries extensions h =
      replied_less Edc (out_at k s why) k s tries extensions h
  step_less Delivers Loses k s why tries extensions h =
      replied_less Other (out_at k s why) k s tries extensions h
  step_less Damages up k s why tries extensions h =
      garbled_by m before (λ p. measure p + 1 ≤ measure (Going k s why tries extensions)) up k s
      why tries extensions
      (λ now. misses_less now (out_at k s why) k s tries extensions h.1)
      (λ a. comes_less (out_at k s why) k s tries extensions h)
  step_less Loses up k s why tries extensions h =
      misses_less Other (out_at k s why) k s tries extensions h.1

  step_le : (down up : Fate) (p : Place) (n : ℕ) → HoldsAt m before commands p
      → measure p ≤ n + 1 → measure (step m before down up p) ≤ n
  step_le down up (Going k s why tries extensions) n h le =
      let less = step_less down up k s why tries extensions h in omega (arith, le, less)
  step_le down up _ n h le = omega arith

  -- all worlds

  stops_at : (fates : List Fates) (p : Place) → HoldsAt m before commands p
      → measure p ≤ length fates
      → has_stopped (run m fates (world_of m before p)).terminal.phase ≡ true
  stops_at [] (Given_up w cause) h le = refl
  stops_at [] (Finished w) h le = refl
  stops_at [] (Going k s why tries extensions) h le =
      absurd (let some = some_left k s why tries extensions in omega (arith, some, le))
  stops_at (x ∷ xs) p h le =
      subst (λ w. has_stopped (run m xs w).terminal.phase ≡ true)
      (sym (is_step m before x.down x.up p))
      (stops_at xs (step m before x.down x.up p) (step_holds m before commands x.down x.up p h)
      (step_le x.down x.up p (length xs) h (omega (arith, le))))

pub stops : (m : Meaning) (settings : Settings) (before commands : List (List ℕ))
    (fates : List Fates)
    → most_exchanges settings m before commands ≤ length fates
    → has_stopped (run m fates (start settings before commands)).terminal.phase ≡ true
stops m settings before commands fates le =
    subst (λ w. has_stopped (run m fates w).terminal.phase ≡ true)
    (sym (first_is m before settings commands))
    (stops_at m before commands fates (first before settings commands)
    (first_holds m before settings commands) (most_le commands le)) where
      most_le : (cs : List (List ℕ)) → most_exchanges settings m before cs ≤ length fates
          → measure m before cs (first before settings cs) ≤ length fates
      most_le [] le = omega arith
      most_le (c ∷ cs) le =
          let many = suc-mul (length cs) settings.extensions in
          let size : ℕ = settings.ifsc in
          let n : ℕ = all_blocks m size before (c ∷ cs) in
          let later : List ℕ → ℕ = λ x. blocks size (length x)
          + blocks first_ifsd (length (m.does (before ++ x ∷ [])))
          + all_blocks m (size_after (m.asks (before ++ x ∷ [])).size size) (before ++ x ∷ []) cs in
          let e : later (take size c ++ drop size c) ≡ later c = ap later (take-append-drop size c)
          in
          let w = ap (λ x. x * (settings.tries + 1)) e in
          let one = suc-mul n (settings.tries + 1) in
          omega (arith, w, one, many, le)
