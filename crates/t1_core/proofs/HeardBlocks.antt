-- What one more block changes at a tap that has missed nothing.
use Rattle.std.proofs.Common.{◌≡◌, ◌≢◌, refl, sym, ap, subst, ◌∙◌, ℕ, Bool, true, false, not, List, [], ◌∷◌, ◌++◌, length, Some, None, append_assoc, append-nil, cond}
use Rattle.std.proofs.lemmas.Slice.Eq.{bytes_eq-Decides}
use Rattle.std.proofs.Math.Seq.{take-append_seam, take-length}
use Rattle.std.specs.List.{AllByRecursion}
use Rattle.t1_core.specs.declared.block.Control.TheVariants.{Abort, Ifs, Resynch, Wtx}
use Rattle.t1_core.specs.declared.gathered.Progress.{Progress}
use Rattle.t1_core.specs.declared.gathered.Progress.TheVariants.{Nothing, Begun, Whole, Unknown}
use Rattle.t1_core.specs.declared.reading.End.{End}
use Rattle.t1_core.specs.declared.reading.End.TheVariants.{Terminal, Card}
use Rattle.t1_core.specs.declared.reading.Reading.{Reading}
use Rattle.t1_core.specs.declared.reading.Role.{Role}
use Rattle.t1_core.specs.declared.reading.Role.TheVariants as role
use Rattle.t1_core.specs.declared.settings.Edc.{Edc}
use Rattle.t1_core.specs.Block.{Block, I, R, Request, Response, other, same}
use Rattle.t1_core.specs.Gathering.{Gathered}
use Rattle.t1_core.specs.Hearing.{AreItems, Heard, Item}
use Rattle.t1_core.specs.Items.{Found, Valid, Damaged, Cut}
use Rattle.t1_core.specs.Overhearing.{IsKnown, Message, Passed, Story, blocks_in, is_known, messages, over_at, tells, tells_all, valid_in}
use Rattle.t1_core.specs.Reading.{goes, is_end, numbers_of, peer, reads, sent}
use Rattle.t1_core.proofs.Bits.{same_self, same_other_2}

-- ---- blocks, one after another

-- no role is unknown, and then `P` holds
abbrev pub Then : (Reading → Story → Type 0) → Reading → Story → List Passed → Type 0
Then P r s [] = P r s
Then P r s (p ∷ ps) =
    (is_known (reads r p.0 (Valid p.1)).0 ≡ true)
    × Then P (reads r p.0 (Valid p.1)).1
    (tells s p.0 (reads r p.0 (Valid p.1)).0 (Valid p.1)) ps

abbrev pub One : (Reading → Story → Type 0) → Reading → Story → End → Block → Type 0
One P r s from b = Then P r s ((from, b) ∷ [])

pub then_more : (P Q : Reading → Story → Type 0) (ps qs : List Passed)
    → ((r' : Reading) (s' : Story) → P r' s' → Then Q r' s' qs) → (r : Reading) (s : Story)
    → Then P r s ps → Then Q r s (ps ++ qs)
then_more P Q [] qs by r s h = by r s h
then_more P Q (p ∷ ps) qs by r s h = (h.0, then_more P Q ps qs by _ _ h.1)

over_none : (p : Progress) (g : Gathered) → g.progress ≡ p → over_at g.progress g ≡ []
over_none Nothing g is = rw is refl
over_none Begun g is = rw is refl
over_none Whole g is = rw is refl
over_none Unknown g is = rw is refl

-- a block without a field changes nothing
stays : (s : Story) → record { given = s.given ++ over_at s.now.progress s.now; now = s.now } ≡ s
stays s = rw (over_none s.now.progress s.now refl) (rw (append-nil s.given) refl)

-- ---- what the tap knows between two blocks

-- what has no part in this: the granted IFS
abbrev bare : Reading → Reading
bare r = record r {
  missed = false;
  terminal = record r.terminal { ifs = None };
  card = record r.card { ifs = None };
}

abbrev pub Here : (Reading → Story → Type 0) → Reading → Story → Type 0
Here Q r s = (r.missed ≡ false) × Q (bare r) s

-- the first fields of the command or response of `turn`, if it is within one
abbrev pub Newest : (within : Bool) → (turn : End) → List ℕ → Gathered → Type 0
Newest true turn bytes g = (g.progress ≡ Begun) × (g.from ≡ turn) × (g.bytes ≡ bytes)
Newest false turn bytes g = (g.progress ≢ Begun) × (bytes ≡ [])

abbrev pub put : End → (front field : List ℕ) → (more : Bool) → Gathered
put from front field more = record {
  from = from;
  bytes = front ++ field;
  place = length front;
  progress = cond (not more) Whole Begun;
}

-- N(S) of the end whose turn it is and of the other, the messages before `rest`, and the bytes so
-- far of the next one
pub record Level (turn : End) (own peers : Bool) (rest done : List Message) (bytes : List ℕ)
    (r : Reading) (s : Story) : Type 0 where
  pub own_is : (numbers_of turn r).next ≡ own
  pub peers_is : (numbers_of (peer turn) r).next ≡ peers
  pub turn_is : r.turn ≡ turn
  pub told : messages s ++ rest ≡ done
  pub newest : Newest r.within turn bytes s.now

-- the newest block is this field of this end; `rest` follows the messages before it
pub record New (from : End) (own peers : Bool) (rest done : List Message) (front field : List ℕ)
    (more : Bool) (r : Reading) (s : Story) : Type 0 where
  pub own_is : (numbers_of from r).next ≡ own
  pub peers_is : (numbers_of (peer from) r).next ≡ peers
  pub turn : r.turn ≡ cond more from (peer from)
  pub within : r.within ≡ more
  pub newest : (numbers_of from r).newest ≡ Some (more, field)
  pub told : s.given ++ rest ≡ done
  pub now : s.now ≡ put from front field more

-- ---- one block

abbrev pub IsPlain : Block → Type 0
IsPlain (R number reason) = Unit {0}
IsPlain (Request control) = Unit {0}
IsPlain (Response (Ifs size)) = Unit {0}
IsPlain (Response (Wtx multiple)) = Unit {0}
IsPlain _ = ⊥

-- a block without a field changes at most the granted IFS
pub plain : (Q : Reading → Story → Type 0) (r : Reading) (s : Story) (from : End) (b : Block)
    → IsPlain b → Here Q r s → One (Here Q) r s from b
plain Q r s Card (Response Resynch) is h = absurd is
plain Q r s from (Response Resynch) is h = absurd is
plain Q r s from (Response Abort) is h = absurd is
plain Q r s from (I number more field) is h = absurd is
plain Q r s Terminal (Response (Ifs size)) is h = (refl, subst (Here Q r) (sym (stays s)) h)
plain Q r s Card (Response (Ifs size)) is h = (refl, subst (Here Q r) (sym (stays s)) h)
plain Q r s from (R number why) is h =
    by from r.missed r.within (is_end from r.turn) (same number (numbers_of (peer from) r).next)
    h.0 where
      by : (end : End) (missed within turn next : Bool) → missed ≡ false
          → let role : Role = cond missed role.Unknown
          (cond (cond within (cond turn false next) false) role.Acknowledgement role.Asks) in
          (is_known role ≡ true) × Here Q r (tells s end role (Valid (R number why)))
      by end true within turn next was = absurd (let is = was in cc)
      by Terminal false true false true was = (refl, subst (Here Q r) (sym (stays s)) h)
      by Card false true false true was = (refl, subst (Here Q r) (sym (stays s)) h)
      by Terminal false true false false was = (refl, subst (Here Q r) (sym (stays s)) h)
      by Card false true false false was = (refl, subst (Here Q r) (sym (stays s)) h)
      by Terminal false true true next was = (refl, subst (Here Q r) (sym (stays s)) h)
      by Card false true true next was = (refl, subst (Here Q r) (sym (stays s)) h)
      by Terminal false false turn next was = (refl, subst (Here Q r) (sym (stays s)) h)
      by Card false false turn next was = (refl, subst (Here Q r) (sym (stays s)) h)
plain Q r s from _ is h = (refl, subst (Here Q r) (sym (stays s)) h)

-- the block is read so, and told so
one : (P : Reading → Story → Type 0) (r now : Reading) (s told : Story) (from : End) (b : Block)
    (role : Role) → reads r from (Valid b) ≡ (role, now) → is_known role ≡ true
    → tells s from role (Valid b) ≡ told → P now told → One P r s from b
one P r now s told from b role is known so p =
    subst (λ x. (is_known x.0 ≡ true) × P x.1 (tells s from x.0 (Valid b))) (sym is)
    (known, subst (P now) (sym so) p)

same_end : (e : End) → is_end e e ≡ true
same_end Terminal = refl
same_end Card = refl

-- an end sends a field, which is read so and told so
sends : (from : End) (n peers more : Bool) (rest given done : List Message) (front field : List ℕ)
    (role : Role) (r : Reading) (s : Story) → r.missed ≡ false
    → (numbers_of (peer from) (bare r)).next ≡ peers → given ++ rest ≡ done
    → reads r from (Valid (I n more field))
    ≡ (role, goes (sent r from n (more, field)) from more) → is_known role ≡ true
    → tells s from role (Valid (I n more field))
    ≡ record { given = given; now = put from front field more }
    → One (Here (New from (other n) peers rest done front field more)) r s from (I n more field)
sends from n peers more rest given done front field role r s missed same told is known so =
    one (Here (New from (other n) peers rest done front field more)) r
    (goes (sent r from n (more, field)) from more) s _ from (I n more field) role is known so
    (by from same) where
      by : (e : End) → (numbers_of (peer e) (bare r)).next ≡ peers
          → Here (New e (other n) peers rest done front field more)
          (goes (sent r e n (more, field)) e more)
          (record { given = given; now = put e front field more })
      by Terminal is = (
        missed,
        record {
          own_is = refl;
          peers_is = is;
          turn = refl;
          within = refl;
          newest = refl;
          told = told;
          now = refl;
        },
      )
      by Card is = (
        missed,
        record {
          own_is = refl;
          peers_is = is;
          turn = refl;
          within = refl;
          newest = refl;
          told = told;
          now = refl;
        },
      )

-- an end sends its next field
pub new_field : (from : End) (n more : Bool) (field : List ℕ) {peers : Bool}
    {rest done : List Message} {front : List ℕ} (r : Reading) (s : Story)
    → Here (Level from n peers rest done front) r s
    → One (Here (New from (other n) peers rest done front field more)) r s from (I n more field)
new_field from n more field {peers} {rest} {done} {front} r s h =
    sends from n peers more rest (messages s) done front field
    (role.Field (not r.within) (not more))
    r s h.0 h.1.peers_is h.1.told (is from h.1.own_is h.1.turn_is) refl
    (so r.within s more h.1.newest) where
      is : (e : End) → (numbers_of e (bare r)).next ≡ n → r.turn ≡ e
          → reads r e (Valid (I n more field))
          ≡ (role.Field (not r.within) (not more), goes (sent r e n (more, field)) e more)
      is Terminal own turn = rw (h.0, own, same_self n, turn) refl
      is Card own turn = rw (h.0, own, same_self n, turn) refl

      so : (within : Bool) (s : Story) (more : Bool) → Newest within from front s.now
          → tells s from (role.Field (not within) (not more)) (Valid (I n more field))
          ≡ record { given = messages s; now = put from front field more }
      so true s true h = rw (h.0, take-length s.now.bytes, h.2) refl
      so true s false h = rw (h.0, take-length s.now.bytes, h.2) refl
      so false s more h = rw h.1 refl

-- it sends its newest field again
pub once_more : (from : End) (n : Bool) {peers more : Bool} {rest done : List Message}
    {front field : List ℕ} (r : Reading) (s : Story)
    → Here (New from (other n) peers rest done front field more) r s
    → One (Here (New from (other n) peers rest done front field more)) r s from (I n more field)
once_more from n {peers} {more} {rest} {done} {front} {field} r s h =
    sends from n peers more rest s.given done front field (role.Repetition (not more)) r s h.0
    h.1.peers_is h.1.told (is from h.1.own_is h.1.turn h.1.within h.1.newest) refl (so more) where
      newest : (e : End) (more : Bool) → same more (is_end e (cond more e (peer e))) ≡ true
      newest Terminal true = refl
      newest Terminal false = refl
      newest Card true = refl
      newest Card false = refl

      is : (e : End) → (numbers_of e (bare r)).next ≡ other n → r.turn ≡ cond more e (peer e)
          → r.within ≡ more → (numbers_of e (bare r)).newest ≡ Some (more, field)
          → reads r e (Valid (I n more field))
          ≡ (role.Repetition (not more), goes (sent r e n (more, field)) e more)
      is Terminal own turn within old = rw (
        h.0,
        own,
        same_other_2 n,
        old,
        same_self more,
        (bytes_eq-Decides field field).1 refl,
        within,
        turn,
        newest Terminal more,
      ) refl
      is Card own turn within old = rw (
        h.0,
        own,
        same_other_2 n,
        old,
        same_self more,
        (bytes_eq-Decides field field).1 refl,
        within,
        turn,
        newest Card more,
      ) refl

      so : (more : Bool) → tells s from (role.Repetition (not more)) (Valid (I n more field))
          ≡ record { given = s.given; now = put from front field more }
      so true = rw (h.1.now, same_end from, append-nil s.given, take-append_seam front field) refl
      so false = rw (h.1.now, same_end from, append-nil s.given, take-append_seam front field) refl

-- ---- the field has arrived

pub more_follows : {from : End} {own peers : Bool} {rest done : List Message} {front field : List ℕ}
    (r : Reading) (s : Story) → New from own peers rest done front field true r s
    → Level from own peers rest done (front ++ field) r s
more_follows {rest = rest} r s h = record {
  own_is = h.own_is;
  peers_is = h.peers_is;
  turn_is = h.turn;
  told = rw h.now (ap (λ g. g ++ rest) (append-nil s.given) ∙ h.told);
  newest = rw (h.within, h.now) (refl, refl, refl);
}

-- the message is whole, and `next` follows it
pub it_ends : {from : End} {own peers : Bool} {rest done : List Message} {front field : List ℕ}
    (next now : List Message) (r : Reading) (s : Story)
    → New from own peers rest done front field false r s
    → s.given ++ (from, front ++ field) ∷ next ≡ now → Level (peer from) peers own next now [] r s
it_ends {from} {own} {front = front} {field = field} next now r s h told = record {
  own_is = h.peers_is;
  peers_is = subst (λ e. (numbers_of e r).next ≡ own) (back from) h.own_is;
  turn_is = h.turn;
  told = rw h.now (append_assoc s.given ((from, front ++ field) ∷ []) next ∙ told);
  newest = rw (h.within, h.now) (λ begun. absurd (cc), refl);
} where
  back : (e : End) → e ≡ peer (peer e)
  back Terminal = refl
  back Card = refl

-- ---- items

-- what holds after the valid blocks of these items holds after the items
pub of_items : (P : Reading → Story → Type 0) (edc : Edc) (r : Reading) (s : Story)
    (items : List Item) (rest : List Heard) → AreItems edc r items rest
    → Then P r s (blocks_in items)
    → AllByRecursion IsKnown items × ((now : Reading) × P now (tells_all s items))
of_items P edc r s [] rest are h = (tt, (r, h))
of_items P edc r s (i ∷ items) rest are h =
    let is = are.0.is in
    by i.found i.role (ap (λ (j : Item). j.role) is
    ∙ ap (λ f. (reads r i.from f).0) (sym (ap (λ (j : Item). j.found) is))) are.1 h
    (λ r' s' later then. of_items P edc r' s' items rest later then) where
      Rest : Found → Role → Type 0
      Rest f o = ((is_known o ≡ true) × AllByRecursion IsKnown items)
          × ((now : Reading) × P now (tells_all (tells s i.from o f) items))

      by : (f : Found) (o : Role) → o ≡ (reads r i.from f).0
          → AreItems edc (reads r i.from f).1 items rest
          → Then P r s (valid_in i.from f ++ blocks_in items)
          → ((r' : Reading) (s' : Story) → AreItems edc r' items rest
          → Then P r' s' (blocks_in items)
          → AllByRecursion IsKnown items × ((now : Reading) × P now (tells_all s' items)))
          → Rest f o
      by (Valid b) o is are h all =
          let later = all _ _ are h.1 in subst (Rest (Valid b)) (sym is) ((h.0, later.0), later.1)
      by (Damaged d) o is are h all =
          let later = all r _ are (subst (λ t. Then P r t (blocks_in items)) (sym (stays s)) h) in
          subst (Rest (Damaged d)) (sym is) ((refl, later.0), later.1)
      by Cut o is are h all =
          let later = all r _ are (subst (λ t. Then P r t (blocks_in items)) (sym (stays s)) h) in
          subst (Rest Cut) (sym is) ((refl, later.0), later.1)
