-- What is accepted under smaller sizes is accepted under larger ones.
use Prim.Native.Nat.{ℕ, zero, suc, ◌+◌, ◌-◌, ◌≤◌}
use native.Mathlib.Omega.{arith}
use mathlib.Core.Path.{◌≡◌, refl, ◌∙◌, ap}
use mathlib.Core.Bool.{Bool, true, false}
use mathlib.Core.List.{List, []}
use mathlib.Core.Option.{Option, none, some}
use lib.ListN.{length, get_elem?}
use lib.Dec.{T, leb, leb→le, le→leb}
use Rattle.spec_fields.specs.Bits.{Bits, unpack}
use Rattle.spec_fields.specs.Refusal.{Refusal, character, loose, name, limit, shape, Answer}
use Rattle.spec_fields.specs.Refusal.{refused, accepted}
use Rattle.spec_fields.specs.Parser.{Result, bad, got, Parser, return, fail, need, and_then, ◌>>=◌}
use Rattle.spec_fields.specs.Parser.{◌>>◌}
use Rattle.spec_fields.proofs.Tests.{T-is, is_t, both, left, right, split}
use Rattle.spec_fields.proofs.Exact.{not-got}
use Rattle.spec_exi.specs.Event.{QName, Event, Kind, SD, ED, SE, AT, EE, CH, CM, PI}
use Rattle.spec_exi.specs.Sizes.{Sizes, NoLarger}
use Rattle.spec_exi.specs.Settings.{Settings, SettingNumbers, meaningful, settings_of}
use Rattle.spec_exi.specs.Settings.{header_of}
use Rattle.spec_exi.specs.Tables.{Placed, name_text, Slot, Tables, Role, uri, local, value}
use Rattle.spec_exi.specs.Tables.{target, comment_text, instruction_text, Partitions, compact}
use Rattle.spec_exi.specs.Tables.{literals, partitions_of}
use Rattle.spec_exi.specs.Tables.{tables_after}
use Rattle.spec_exi.specs.Grammar.{State, is_finished}
use Rattle.spec_exi.specs.Context.{Context, start, character_role}
use Rattle.spec_exi.specs.Lists.{within_tables, within_grammars}
use Rattle.spec_exi.specs.Reader.{read_literal, read_hit, read_in, read_by_literals, read_entry}
use Rattle.spec_exi.specs.Reader.{read_form, read_string, readName, readContent, step, Reading}
use Rattle.spec_exi.specs.Reader.{following, onward, read_events, read_header, read_body}
use Rattle.spec_exi.specs.Reader.{read_stream, ReaderRoom, enough_to_read, read_sized}
use Rattle.spec_exi.proofs.Body.{not-accepted}

-- Where the rest is accepted alike, so is the whole.
followed : (e : Event Placed) (a b : Answer Reading) (r : Reading)
    → ((k : Reading) → a ≡ accepted k → b ≡ accepted k)
    → following e a ≡ accepted r → following e b ≡ accepted r
unfolding following
followed e (refused k i) b r h q = not-accepted q
followed e (accepted k) b r h q = ap (following e) (h k refl) ∙ q

module _ {A : Type 0} where
  -- What p reads q reads too.
  pub record Also (p q : Parser A) : Type 0 where
    pub reads : (bs : Bits) (a : A) (rest : Bits) → p bs ≡ got a rest → q bs ≡ got a rest

  -- Anything reads what it reads.
  pub also-same : (p : Parser A) → Also p p
  also-same p = record { reads = λ bs a rest e. e }

-- One after the other.
pub also-then : {A B : Type 0} {p q : Parser A} {f g : A → Parser B} → Also p q
    → ((a : A) → Also (f a) (g a)) → Also (p >>= f) (q >>= g)
unfolding ◌>>=◌ and_then
also-then {A} {B} {p} {q} {f} {g} h k = record { reads = λ bs b rest e. go bs b rest (p bs) refl e }
  where
    go : (bs : Bits) (b : B) (rest : Bits) (x : Result A) → p bs ≡ x → and_then x f ≡ got b rest
        → and_then (q bs) g ≡ got b rest
    go bs b rest (bad j) i e = not-got e
    go bs b rest (got a mid) i e = ap (λ y. and_then y g) (h.reads bs a mid i) ∙ (k a).reads mid b rest e

-- A test that passes where another does.
pub also-need : {B : Type 0} {p q : Parser B} (b c : Bool) (k : Refusal) → (T b → T c) → Also p q
    → Also (need b k >> p) (need c k >> q)
unfolding need ◌>>◌ ◌>>=◌ and_then return fail
also-need {p} {q} b c k t h = record { reads = λ bs a rest e. go b c t bs a rest e }
  where
    go : (b c : Bool) → (T b → T c) → (bs : Bits) (a : _) (rest : Bits)
        → (need b k >> p) bs ≡ got a rest → (need c k >> q) bs ≡ got a rest
    go true true t bs a rest e = h.reads bs a rest e
    go true false t bs a rest e = absurd (t tt)
    go false c t bs a rest e = not-got e

-- The same test.
pub also-when : {B : Type 0} {p q : Parser B} (b : Bool) (k : Refusal) → Also p q
    → Also (need b k >> p) (need b k >> q)
also-when b k h = also-need b b k (λ t. t) h

larger : (n a b : ℕ) → a ≤ b → T (leb n a) → T (leb n b)
larger n a b h t = omega (arith, leb→le n a t, le→leb n b)

module _ (y z : Sizes) (h : NoLarger y z) where
  tables-larger : (t : Tables) → T (within_tables y t) → T (within_tables z t)
  unfolding within_tables
  tables-larger t w = search (both, left, right, larger, h.uris, h.names, h.values, h.store)

  grammars-larger : (c : Context) → T (within_grammars y c) → T (within_grammars z c)
  unfolding within_grammars
  grammars-larger c w = search (both, left, right, larger, h.opened, h.grammars, h.learned)

  module _ (s : Settings) where
    literal-also : (t : Tables) (n : ℕ) → Also (read_literal y s t n) (read_literal z s t n)
    unfolding read_literal
    literal-also t n =
        also-need _ _ limit (larger n y.string z.string h.string)
        (also-need _ _ limit (larger (length t.store + n) y.store z.store h.store)
        (also-same _))

    in-also : (t : Tables) (k v : ℕ) (o : Option (List Slot))
        → Also (read_in y s t k v o) (read_in z s t k v o)
    unfolding read_in read_hit
    in-also t k v none = literal-also t (v - k)
    in-also t k v (some es) = also-same _

    by-literals-also : (t : Tables) (ess : List (List Slot))
        → Also (read_by_literals y s t ess) (read_by_literals z s t ess)
    unfolding read_by_literals
    by-literals-also t ess = also-then (also-same _) (λ v. in-also t (length ess) v (get_elem? ess v))

    entry-also : (t : Tables) (v : ℕ) (o : Option Slot)
        → Also (read_entry y s t v o) (read_entry z s t v o)
    unfolding read_entry
    entry-also t v none = by-literals-also t []
    entry-also t v (some x) = also-same _

    form-also : (t : Tables) (p : Partitions) → Also (read_form y s t p) (read_form z s t p)
    unfolding read_form
    form-also t (compact es) = also-then (also-same _) (λ x. entry-also t x.0 x.1)
    form-also t (literals ess) = by-literals-also t ess

    string-also : (t : Tables) (r : Role) → Also (read_string y s t r) (read_string z s t r)
    unfolding read_string
    string-also t r =
        also-then (form-also t (partitions_of t r)) (λ x. also-when _ character (also-when _ loose (also-when _ name
        (also-need _ _ limit (tables-larger (tables_after t r x.0 x.1.text)) (also-same _)))))

    name-also : (t : Tables) (attr : Bool) (n : Option (QName Placed))
        → Also (readName y s t attr n) (readName z s t attr n)
    unfolding readName
    name-also t attr none =
        also-then (string-also t uri) (λ u. also-then (string-also u.1 (local attr u.0.text)) (λ n. also-same _))
    name-also t attr (some q) = also-same _

    content-also : (t : Tables) (st : State) (k : Kind) (n : Option (QName Placed))
        → Also (readContent y s t st k n) (readContent z s t st k n)
    unfolding readContent
    content-also t st SD n = also-same _
    content-also t st ED n = also-same _
    content-also t st EE n = also-same _
    content-also t st SE n = also-then (name-also t false n) (λ q. also-same _)
    content-also t st AT n = also-then (name-also t true n)
        (λ q. also-then (string-also q.1 (value (name_text q.0))) (λ v. also-same _))
    content-also t st CH n = also-then (string-also t (character_role st)) (λ v. also-same _)
    content-also t st CM n = also-then (string-also t comment_text) (λ v. also-same _)
    content-also t st PI n =
        also-then (string-also t target) (λ x. also-then (string-also x.1 instruction_text) (λ v. also-same _))

    step-also : (c : Context) → Also (step y s c) (step z s c)
    unfolding step
    step-also c =
        also-then (also-same _)
        (λ x. also-then (content-also c.tables c.state x.production.kind x.production.qname)
        (λ e. also-when _ shape
        (also-when _ loose (also-need _ _ limit (grammars-larger _) (also-same _)))))

    events-still : (n m : ℕ) → n ≤ m → (c : Context) (bs : Bits) (r : Reading)
        → read_events n y s c bs ≡ accepted r → read_events m z s c bs ≡ accepted r
    unfolding read_events onward
    events-still zero m l c bs r e = not-accepted e
    events-still (suc n) zero l c bs r e = absurd (omega arith)
    events-still (suc n) (suc m) l c bs r e =
        go (λ c' rest k w. events-still n m (omega arith) c' rest k w) (step y s c bs) refl e
      where
        go : ((c' : Context) (rest : Bits) (k : Reading) → read_events n y s c' rest ≡ accepted k
            → read_events m z s c' rest ≡ accepted k)
            → (x : Result (Event Placed × Context)) → step y s c bs ≡ x
            → onward s (λ c' rest. read_events n y s c' rest) x ≡ accepted r
            → onward s (λ c' rest. read_events m z s c' rest) (step z s c bs) ≡ accepted r
        go later (bad k) i q = not-accepted q
        go later (got x rest) i q =
            rw ((step-also c).reads bs x rest i)
            (followed x.0 _ _ r (λ k w. split (is_finished x.1.state) (λ b. rw b (rw b at w))
            (λ b. rw b (later x.1 rest k (rw b at w)))) q)

  stream-still : (s : Settings) (stream : List ℕ) (r : Reading) → read_stream y s stream ≡ accepted r
      → read_stream z s stream ≡ accepted r
  unfolding read_stream read_body
  stream-still s stream r e = go (read_header (header_of s) (unpack stream)) e
    where
      go : (x : Result (Unit {0})) → read_body y s x ≡ accepted r → read_body z s x ≡ accepted r
      go (bad k) q = not-accepted q
      go (got u bs) q = events-still s y.events z.events h.events (start s) bs r q

  -- The same reading, each side with memory enough for its own sizes.
  pub accepted-still : (p r : ReaderRoom) (o : SettingNumbers) (stream : List ℕ) (x : Reading)
      → T (enough_to_read z r) → read_sized y p o stream ≡ accepted x
      → read_sized z r o stream ≡ accepted x
  unfolding read_sized
  accepted-still p r o stream x w e =
      let long = larger (length stream) y.stream z.stream h.stream in
      split (enough_to_read y p)
      (λ a. split (meaningful o)
      (λ b. split (leb (length stream) y.stream)
      (λ c. rw (
        T-is (enough_to_read z r) w,
        b,
        T-is (leb (length stream) z.stream)
            (long (is_t (leb (length stream) y.stream) c)),
      )
      (stream-still (settings_of o) stream x (rw (a, b, c) at e)))
      (λ c. not-accepted (rw (a, b, c) at e)))
      (λ b. not-accepted (rw (a, b) at e)))
      (λ a. not-accepted (rw a at e))
