-- The end of a patient card: a request of the terminal while its own S(WTX request) is in progress,
-- and all that may happen.
use Rattle.std.proofs.Common.{◌≡◌, refl, sym, subst, ap, ◌∙◌, ℕ, ◌+◌, ◌≤◌, Bool, true, false, List, [], ◌∷◌, length, Option, Some, None, arith}
use Rattle.std.specs.Prelude.{cond, is_some, not, ◌&&◌, if◌then◌else◌}
use Rattle.t1_core.specs.declared.applet.Applet.{Ghosts}
use Rattle.t1_core.specs.declared.block.Control.TheVariants.{Resynch, Ifs, Abort, Wtx}
use Rattle.t1_core.specs.declared.card.Reply.{Reply}
use Rattle.t1_core.specs.declared.card.Reply.TheVariants as reply
use Rattle.t1_core.specs.declared.pcb.BlockReason.TheVariants.{Other}
use Rattle.t1_core.specs.Block.{Response, is_size}
use Rattle.t1_core.specs.BlockBytes.{arrival_of, is_whole}
use Rattle.t1_core.specs.CardSide.{Card, Did, Turn, again, card_damaged, replies, request_of, serves, turn}
use Rattle.t1_core.specs.Doing.{DoesAll, DoesSome, EndOf, Goes, IsKeeping, Keeping, after, with_end}
use Rattle.t1_core.specs.Patience.{Comes, Continues, Extends, Fails, HappenAllTo, HappensTo, HearsAt, PatientCall, PatientOf, Resets, Takes, asking, blocks_of, hears_waiting, seen}

-- the request in progress does not change the block of a reply
unasked : (r : Reply) (multiple : ℕ) (c : Card) → replies r c ≡ replies r (asking (Some multiple) c)
unasked reply.Information multiple c = refl
unasked (reply.Ready reason) multiple c = refl
unasked (reply.Request control) multiple c = refl
unasked (reply.Response control) multiple c = refl

abbrev asks : ℕ → Turn → Turn
asks multiple t = record { card = asking (Some multiple) t.card; block = t.block }

module _ {C : Type 0} (multiple : ℕ) (old new : EndOf C) (r : Reply) where
  abbrev in_progress : EndOf C → EndOf C
  in_progress e = with_end (asking (Some multiple)) e

  sized_at : (size : ℕ) → is_size size ≡ true → Goes (serves (Ifs size)) old r new
      → Goes (serves (Ifs size)) (in_progress old) r (in_progress new)
  sized_at size valid (same, keeps, goes) = (
    same,
    keeps,
    λ ran sent.
        let c : Card = after old ran sent in
        let d : Card = after (in_progress old) ran sent in
        ap (λ v. cond v (turn (record d { size = size }) (Response (Ifs size)))
        (again (request_of d.left) Other d)) valid
        ∙ ap (asks multiple) (sym (ap (λ v. cond v
        (turn (record c { size = size }) (Response (Ifs size)))
        (again (request_of c.left) Other c)) valid) ∙ goes ran sent)
        ∙ ap (λ b. turn (after (in_progress new) ran sent) b) (unasked r multiple new.at),
  )

-- the same for the end with its request, before and after
module _ {C : Type 0} (multiple : ℕ) (p q : PatientOf C) (r : Reply)
    (asked : p.asked ≡ Some multiple) where
  pub sized : (size : ℕ) → is_size size ≡ true → q.asked ≡ p.asked
      → Goes (serves (Ifs size)) p.end r q.end → Goes (serves (Ifs size)) (seen p) r (seen q)
  sized size valid stays goes =
      subst (λ o. Goes (serves (Ifs size)) (with_end (asking p.asked) p.end) r
      (with_end (asking o) q.end)) (sym (stays ∙ asked))
      (subst (λ o. Goes (serves (Ifs size)) (with_end (asking o) p.end) r
      (with_end (asking (Some multiple)) q.end)) (sym asked)
      (sized_at multiple p.end q.end r size valid goes))

  pub resynched : q.asked ≡ None → Goes (serves Resynch) p.end r q.end
      → Goes (serves Resynch) (seen p) r (seen q)
  resynched over goes =
      subst (λ o. Goes (serves Resynch) (with_end (asking p.asked) p.end) r
      (with_end (asking o) q.end)) (sym over)
      (subst (λ o. Goes (serves Resynch) (with_end (asking o) p.end) r q.end) (sym asked) goes)

  pub aborted : q.asked ≡ None → Goes (serves Abort) p.end r q.end
      → Goes (serves Abort) (seen p) r (seen q)
  aborted over goes =
      subst (λ o. Goes (serves Abort) (with_end (asking p.asked) p.end) r
      (with_end (asking o) q.end)) (sym over)
      (subst (λ o. Goes (serves Abort) (with_end (asking o) p.end) r q.end) (sym asked) goes)

-- ---- all that may happen

abbrev some : List ℕ → ℕ
some bytes = if is_whole bytes then 1 else 0

one_at_most : (b : Bool) → (if b then 1 else 0) ≤ 1
one_at_most true = omega arith
one_at_most false = omega arith

abbrev count : Option Did → ℕ
count None = 0
count (Some d) = 1

count_at_most : (did : Option Did) → count did ≤ 1
count_at_most None = omega arith
count_at_most (Some d) = omega arith

-- a block stays, or none does
kept_at_most : (o : Option ℕ) (old new : List ℕ) → new ≡ (if is_some o then old else [])
    → some new ≤ some old
kept_at_most None old new is = let e : some new ≡ 0 = ap some is in omega (arith, e)
kept_at_most (Some n) old new is = let e : some new ≡ some old = ap some is in omega (arith, e)

module _ {C : Type 0} where
  keeps_seen : (o : Option ℕ) (e : EndOf C) (limit : ℕ) (sent : List ℕ) → IsKeeping limit e sent
      → IsKeeping limit (with_end (asking o) e) sent
  keeps_seen None e limit sent keeping = keeping
  keeps_seen (Some n) e limit sent keeping = keeping

  keeps_unseen : (o : Option ℕ) (e : EndOf C) (limit : ℕ) (sent : List ℕ)
      → IsKeeping limit (with_end (asking o) e) sent → IsKeeping limit e sent
  keeps_unseen None e limit sent keeping = keeping
  keeps_unseen (Some n) e limit sent keeping = keeping

module _ {C : Type 0} (a : Ghosts C) where
  -- what a call carries out, and the bytes of a command that exceed the limit then
  abbrev Called : PatientOf C → PatientOf C → ℕ → Type 0
  Called old new bound = (did : Option Did) × (later : List ℕ) × IsKeeping a.LIMIT new.end later
      × DoesSome a.Does (a.standing old.end.card) did (a.standing new.end.card)
      × (count did + some new.kept ≤ bound)

  taken : (bytes : List ℕ) (old : PatientOf C) (reply : Option Reply) (new : PatientOf C)
      (sent : List ℕ) → IsKeeping a.LIMIT old.end sent → Takes a bytes old reply new
      → Called old new 1
  taken bytes old (Some reply) new sent keeping (none, empty, steps) =
      let (did, later, kept, does, all) = steps sent keeping in
      let n = count_at_most did in
      let e : some new.kept ≡ 0 = ap some empty in
      (did, later, kept, does, omega (arith, n, e))
  taken bytes old None new sent keeping (none, stays, (stands, at_is, over_is)) = (
    None,
    sent,
    subst (λ v. Keeping a.LIMIT v new.end.at.collected sent) (sym over_is)
        (subst (λ (c : Card). Keeping a.LIMIT old.end.over c.collected sent) (sym at_is) keeping),
    stands,
    let n = one_at_most (is_whole new.kept) in omega (arith, n),
  )

  went : (step : Card → Turn) (old new : PatientOf C) (reply : Reply) (sent : List ℕ)
      → IsKeeping a.LIMIT old.end sent → Goes step (seen old) reply (seen new)
      → some new.kept ≤ some old.kept → Called old new (some old.kept)
  went step old new reply sent keeping (same, keeps, moves) le = (
    None,
    sent,
    keeps_unseen new.asked new.end a.LIMIT sent
        (keeps a.LIMIT sent (keeps_seen old.asked old.end a.LIMIT sent keeping)),
    ap a.standing same,
    omega (arith, le),
  )

  stayed : (old new : PatientOf C) (sent : List ℕ) → IsKeeping a.LIMIT old.end sent
      → new.end ≡ old.end → new.kept ≡ old.kept → Called old new (some old.kept)
  stayed old new sent keeping end_is kept_is = (
    None,
    sent,
    subst (λ e. IsKeeping a.LIMIT e sent) (sym end_is) keeping,
    ap (λ e. a.standing e.card) end_is,
    let e : some new.kept ≡ some old.kept = ap some kept_is in omega (arith, e),
  )

  more : (old new : PatientOf C) (least most : ℕ) → least ≤ most → Called old new least
      → Called old new most
  more old new least most le (did, later, kept, does, n) =
      (did, later, kept, does, omega (arith, le, n))

  heard : (o : Option ℕ) (bytes : List ℕ) (old : PatientOf C) (reply : Option Reply)
      (new : PatientOf C) (sent : List ℕ) → IsKeeping a.LIMIT old.end sent
      → HearsAt a o bytes old reply new → Called old new (1 + some old.kept)
  heard None bytes old reply new sent keeping takes =
      more old new 1 (1 + some old.kept) (omega arith)
      (taken bytes old reply new sent keeping takes)
  heard (Some multiple) bytes old None new sent keeping (grants, is) =
      more old new (some old.kept) (1 + some old.kept) (omega arith)
      (stayed old new sent keeping (ap (λ p. p.end) is) (ap (λ p. p.kept) is))
  heard (Some multiple) bytes old (Some reply) new sent keeping (differs, kept_is, goes) =
      more old new (some old.kept) (1 + some old.kept) (omega arith)
      (went (hears_waiting (Wtx multiple) (arrival_of bytes)) old new reply sent keeping goes
      (kept_at_most new.asked old.kept new.kept kept_is))

  whole_of : (o : Option ℕ) (b : Bool) → (not (is_some o) && b) ≡ true
      → 1 ≤ (if b then 1 else 0)
  whole_of None true is = omega arith
  whole_of None false is = absurd (cc)
  whole_of (Some n) b is = absurd (cc)

  called : (call : PatientCall) (old new : PatientOf C) (sent : List ℕ)
      → IsKeeping a.LIMIT old.end sent → HappensTo a call old new
      → Called old new (blocks_of (call ∷ []) + some old.kept)
  called (Comes bytes reply) old new sent keeping hears =
      heard old.asked bytes old reply new sent keeping hears
  called (Continues reply) old new sent keeping (waits, takes) =
      let e = whole_of old.asked (is_whole old.kept) waits in
      more old new 1 (0 + some old.kept) (omega (arith, e))
      (taken old.kept old reply new sent keeping takes)
  called (Extends multiple None) old new sent keeping (waits, is) =
      more old new (some old.kept) (0 + some old.kept) (omega arith)
      (stayed old new sent keeping (ap (λ p. p.end) is) (ap (λ p. p.kept) is))
  called (Extends multiple (Some reply)) old new sent keeping (waits, request, is) =
      more old new (some old.kept) (0 + some old.kept) (omega arith)
      (stayed old new sent keeping (ap (λ p. p.end) is) (ap (λ p. p.kept) is))
  called (Fails reason reply) old new sent keeping (asked_is, kept_is, goes) =
      more old new (some old.kept) (0 + some old.kept) (omega arith)
      (went (λ c. card_damaged reason c) old new reply sent keeping goes
      (kept_at_most old.asked old.kept new.kept kept_is))
  called Resets old new sent keeping is = (
    None,
    [],
    subst (λ p. IsKeeping a.LIMIT p.end []) (sym is) (omega arith),
    ap (λ p. a.standing p.end.card) is,
    let e : some new.kept ≡ 0 = ap (λ p. some p.kept) is in omega (arith, e),
  )

  one_more : (old mid last : a.State) (did : Option Did) (dids : List Did)
      → DoesSome a.Does old did mid → DoesAll a.Does mid dids last
      → (all : List Did) × DoesAll a.Does old all last × (length all ≡ count did + length dids)
  one_more old mid last None dids same goes =
      (dids, subst (λ s. DoesAll a.Does s dids last) same goes, omega arith)
  one_more old mid last (Some d) dids (does, short) goes =
      (d ∷ dids, (mid, does, goes), omega arith)

  weigh : (call : PatientCall) (calls : List PatientCall)
      → blocks_of (call ∷ calls) ≡ blocks_of (call ∷ []) + blocks_of calls
  weigh (Comes bytes reply) calls = omega arith
  weigh (Continues reply) calls = omega arith
  weigh (Extends multiple reply) calls = omega arith
  weigh (Fails reason reply) calls = omega arith
  weigh Resets calls = omega arith

  pub carried_once : (calls : List PatientCall) (old new : PatientOf C) (sent : List ℕ)
      → IsKeeping a.LIMIT old.end sent → HappenAllTo a calls old new
      → (did : List Did) × DoesAll a.Does (a.standing old.end.card) did (a.standing new.end.card)
      × (length did + some new.kept ≤ blocks_of calls + some old.kept)
  carried_once [] old new sent keeping is = (
    [],
    ap (λ p. a.standing p.end.card) is,
    let e : some new.kept ≡ some old.kept = ap (λ p. some p.kept) is in omega (arith, e),
  )
  carried_once (call ∷ calls) old new sent keeping (mid, one, rest) =
      let (did, later, kept, does, le) = called call old mid sent keeping one in
      let (dids, goes, les) = carried_once calls mid new later kept rest in
      let (all, does_all, n) = one_more (a.standing old.end.card) (a.standing mid.end.card)
      (a.standing new.end.card) did dids does goes in
      let b = weigh call calls in (all, does_all, omega (arith, le, les, n, b))
