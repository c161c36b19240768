-- Demands 2 and 3, and where the strings lie: the laws that crates/theorems has as claims.
use mathlib.Core.Path.{◌≡◌, refl, sym, ◌∙◌, ap, subst}
use mathlib.Core.Logic.{◌↔◌}
use mathlib.Core.List.{List, [], ◌∷◌, ◌++◌, map, append_assoc, append_cancel_left}
use mathlib.Core.Option.{some, some-injective}
use Prim.Native.Nat.{ℕ, ◌≤◌}
use native.Mathlib.Omega.{arith}
use lib.ListN.{length, length-append}
use lib.Dec.{T, leb, ltb, leb→le, le→leb, ltb→lt, lt→ltb}
use Rattle.spec_fields.specs.Bits.{Bits, unpack, pack, is_padding, all_zero}
use Rattle.spec_fields.specs.Parser.{Result, bad, got}
use Rattle.spec_fields.specs.Refusal.{Answer, refused, accepted}
use Rattle.spec_fields.proofs.Refusal.{refusal-number}
use Rattle.spec_fields.proofs.Tests.{T-is, is_t, both, left, right, split}
use Rattle.spec_fields.proofs.Pack.{Octets, unpack-append, length-unpack, unpack-pack}
use Rattle.text.specs.Text.{Text}
use Rattle.spec_exi.specs.Event.{Event}
use Rattle.spec_exi.specs.Settings.{Settings, SettingNumbers, meaningful, settings_of}
use Rattle.spec_exi.specs.Settings.{header_of}
use Rattle.spec_exi.specs.Sizes.{sizes, max_stream, max_events}
use Rattle.spec_exi.specs.Tables.{event_text}
use Rattle.spec_exi.specs.Context.{start, context_after}
use Rattle.spec_exi.specs.Strict.{list_bits, strict}
use Rattle.spec_exi.specs.Lists.{every, Good}
use Rattle.spec_exi.specs.Reader.{Reading, ReaderRoom, enough_to_read, read_sized, read}
use Rattle.spec_exi.specs.Reader.{read_header, read_body, read_stream, read_reply}
use Rattle.spec_exi.specs.Writer.{Stored, WriterRoom, enough_to_write, write, write_reply}
use Rattle.spec_exi.specs.Writer.{write_list, write_events, as_octets}
use Rattle.spec_exi.specs.Meaning.{AreOctets, stored_of, meant, Accepts}
use Rattle.spec_exi.proofs.Fit.{ListFit}
use Rattle.spec_exi.proofs.Good.{fit-of-good, good-of-fit}
use Rattle.spec_exi.proofs.Body.{not-accepted, accepted-same}
use Rattle.spec_exi.proofs.Stream.{stream-fit, stream-found, prefix-free}
use Rattle.spec_exi.proofs.Step.{sane-start}
use Rattle.spec_exi.proofs.Places.{settled-start, read-places, read-store}
use Rattle.spec_exi.proofs.Writes.{write-sound, write-complete}

-- ---- good lists are those that may come after the start

octets-of : (stream : List ℕ) → AreOctets stream → Octets stream
unfolding every
octets-of [] h = tt
octets-of (b ∷ bs) h = (
  ltb→lt b 256 (left (ltb b 256) (every (λ x. ltb x 256) bs) h),
  octets-of bs (right (ltb b 256) (every (λ x. ltb x 256) bs) h),
)

are-octets : (stream : List ℕ) → Octets stream → AreOctets stream
unfolding every
are-octets [] h = tt
are-octets (b ∷ bs) h = both (ltb b 256) (every (λ x. ltb x 256) bs) (lt→ltb b 256 h.0) (are-octets bs h.1)

good_of : (s : Settings) (l : List (Event Text)) → ListFit s (start s) l → length l ≤ max_events
    → length (strict s l) ≤ max_stream → Good s l
good_of s l h m o =
    let g = good-of-fit s l h in
    record {
      well_formed = g.formed;
      limits = record { list = record { events = m; strings = g.strings; sizes = g.sizes }; octets = o };
    }

fit_of : (s : Settings) (l : List (Event Text)) → Good s l → ListFit s (start s) l
fit_of s l g =
    fit-of-good s l
    (record {
      formed = g.well_formed;
      strings = g.limits.list.strings;
      sizes = g.limits.list.sizes;
    })

-- ---- the reader

-- What an accepting answer rests on.
record Accepting (r : ReaderRoom) (o : SettingNumbers) (stream : List ℕ)
    (x : Reading) : Type 0 where
  enough : T (enough_to_read sizes r)
  means : T (meaningful o)
  short : length stream ≤ max_stream
  answer : read_stream sizes (settings_of o) stream ≡ accepted x

accepting : (r : ReaderRoom) (o : SettingNumbers) (stream : List ℕ) (x : Reading)
    → read r o stream ≡ accepted x → Accepting r o stream x
unfolding read read_sized
accepting r o stream x q =
    split (enough_to_read sizes r)
    (λ e. split (meaningful o)
    (λ m. split (leb (length stream) max_stream)
    (λ h. record {
      enough = is_t (enough_to_read sizes r) e;
      means = is_t (meaningful o) m;
      short = leb→le (length stream) max_stream (is_t (leb (length stream) max_stream) h);
      answer = rw (e, m, h) at q;
    })
    (λ h. not-accepted (rw (e, m, h) at q)))
    (λ m. not-accepted (rw (e, m) at q)))
    (λ e. not-accepted (rw e at q))

read-accepts : (r : ReaderRoom) (o : SettingNumbers) (stream : List ℕ) → T (enough_to_read sizes r)
    → T (meaningful o) → length stream ≤ max_stream
    → read r o stream ≡ read_stream sizes (settings_of o) stream
unfolding read read_sized
read-accepts r o stream e m h = rw (
  T-is (enough_to_read sizes r) e,
  T-is (meaningful o) m,
  T-is (leb (length stream) max_stream) (le→leb (length stream) max_stream h),
)

-- ---- where the strings lie

stream-places : (s : Settings) (stream : List ℕ) (r : Reading)
    → read_stream sizes s stream ≡ accepted r
    → meant r.store (map stored_of r.events) ≡ some (map event_text r.events)
unfolding read_stream read_body
stream-places s stream r q = go (read_header (header_of s) (unpack stream)) q
  where
    go : (x : Result (Unit {0})) → read_body sizes s x ≡ accepted r
        → meant r.store (map stored_of r.events) ≡ some (map event_text r.events)
    go (bad k) q = not-accepted q
    go (got u bs) q = read-places sizes s max_events (start s) bs r (settled-start s) q

stream-store : (s : Settings) (stream : List ℕ) (r : Reading)
    → read_stream sizes s stream ≡ accepted r
    → r.store ≡ (context_after s (start s) (map event_text r.events)).tables.store
unfolding read_stream read_body
stream-store s stream r q = go (read_header (header_of s) (unpack stream)) q
  where
    go : (x : Result (Unit {0})) → read_body sizes s x ≡ accepted r
        → r.store ≡ (context_after s (start s) (map event_text r.events)).tables.store
    go (bad k) q = not-accepted q
    go (got u bs) q = read-store max_events s (start s) bs r (sane-start s) q

module _ (r : ReaderRoom) (o : SettingNumbers) (stream : List ℕ) (x : Reading) (q : read r o stream
    ≡ accepted x) where
  -- Each string, looked up in the store, is that string.
  pub texts : meant x.store (map stored_of x.events) ≡ some (map event_text x.events)
  texts = stream-places (settings_of o) stream x (accepting r o stream x q).answer

  -- The store is the initial entries and the literals of the strict form, and nothing else.
  pub store : x.store ≡ (context_after (settings_of o) (start (settings_of o))
      (map event_text x.events)).tables.store
  store = stream-store (settings_of o) stream x (accepting r o stream x q).answer

-- The reading behind a list has its texts.
listed : (r : ReaderRoom) (o : SettingNumbers) (stream : List ℕ) (l : List (Event Text))
    (q : Accepts r o stream l) → map event_text q.0.events ≡ l
listed r o stream l q =
    some-injective (map event_text q.0.events) l (sym (texts r o stream q.0 q.1) ∙ q.2)

zero-accepted : (a : Answer Reading) → ((read_reply a).number ≡ 0)
    ↔ ((x : Reading) × (a ≡ accepted x))
unfolding read_reply
zero-accepted (refused k i) = (λ e. absurd (omega (arith, refusal-number k)), λ h. not-accepted h.1)
zero-accepted (accepted x) = (λ e. (x, refl), λ h. refl)

accepts-good : (r : ReaderRoom) (o : SettingNumbers) (stream : List ℕ) (l : List (Event Text))
    → AreOctets stream → Accepts r o stream l
    → Good (settings_of o) l × (stream ≡ strict (settings_of o) l)
accepts-good r o stream l h q =
    let x = q.0 in
    let a = q.1 in
    let e = listed r o stream l q in
    let m = accepting r o stream x a in
    let s = settings_of o in
    let f = stream-fit s stream x (octets-of stream h) m.answer in
    let i = f.is in
    subst (λ k. Good s k × (stream ≡ strict s k)) e
    (good_of s (map event_text x.events) f.fit f.few (subst (λ b. length b ≤ max_stream) i m.short), i)

good-accepted : (r : ReaderRoom) (o : SettingNumbers) (l : List (Event Text))
    → T (enough_to_read sizes r) → T (meaningful o) → Good (settings_of o) l
    → Accepts r o (strict (settings_of o) l) l
good-accepted r o l e m g =
    let s = settings_of o in
    let f = stream-found s l (fit_of s l g) g.limits.list.events in
    let q = read-accepts r o (strict s l) e m g.limits.octets ∙ f.answer in
    (f.reading, q, texts r o (strict s l) f.reading q ∙ ap some f.is)

-- A stream is the strict form of one list (demand 3).
pub one_list : (s : Settings) (l m : List (Event Text)) → Good s l → Good s m
    → strict s l ≡ strict s m → l ≡ m
one_list s l m g h e =
    let f = stream-found s l (fit_of s l g) g.limits.list.events in
    let k = stream-found s m (fit_of s m h) h.limits.list.events in
    let same : f.reading ≡ k.reading = accepted-same (sym f.answer ∙ ap (read_stream sizes s) e ∙ k.answer) in
    sym f.is ∙ ap (λ (x : Reading). map event_text x.events) same ∙ k.is

front-octets : (a b : List ℕ) → Octets (a ++ b) → Octets a
front-octets [] b h = tt
front-octets (x ∷ a) b h = (h.0, front-octets a b h.1)

-- Two strict forms of which one begins the other are the same.
begins : (s : Settings) (l m : List (Event Text)) (b : List ℕ) → Good s l → Good s m
    → strict s l ++ b ≡ strict s m → b ≡ []
unfolding strict is_padding
begins s l m b g h e =
    let hs = unpack (header_of s) in
    let (y, ey, py) = unpack-pack (hs ++ list_bits s (start s) l) in
    let (z, ez, pz) = unpack-pack (hs ++ list_bits s (start s) m) in
    let i : (hs ++ list_bits s (start s) l ++ y) ++ unpack b ≡ hs ++ list_bits s (start s) m ++ z
    = ap (λ w. w ++ unpack b) (sym ey) ∙ sym (unpack-append (strict s l) b) ∙ ap unpack e ∙ ez in
    let j : hs ++ (list_bits s (start s) l ++ (y ++ unpack b)) ≡ hs ++ (list_bits s (start s) m ++ z) =
    simp append_assoc at i in
    let k = append_cancel_left hs (list_bits s (start s) l ++ (y ++ unpack b)) (list_bits s (start s) m ++ z) j in
    let rests : y ++ unpack b ≡ z = (prefix-free s (start s) l m (y ++ unpack b) z (fit_of s l g)
    (fit_of s m h) k).rests in
    empty b (omega (
      arith,
      ap length rests,
      length-append y (unpack b),
      length-unpack b,
      leb→le
          (length z) 7 (left (leb (length z) 7) (all_zero z) pz),
    ))
  where
    empty : (b : List ℕ) → length b ≤ 0 → b ≡ []
    empty [] h = refl
    empty (x ∷ b) h = absurd (omega arith)

-- A stream is accepted where the number is 0.
pub accepted-when-zero : (r : ReaderRoom) (o : SettingNumbers) (stream : List ℕ)
    → ((read_reply (read r o stream)).number ≡ 0) ↔ ((l : List (Event Text)) × Accepts r o stream l)
accepted-when-zero r o stream = (
  λ e. let (x, q) = (zero-accepted (read r o stream)).0 e in (map event_text x.events, (x, q, texts r o stream x q)),
  λ h. (zero-accepted (read r o stream)).1 (h.1.0, h.1.1),
)

-- Accepted are exactly the strict forms of good lists (demand 3).
pub exact : (r : ReaderRoom) (o : SettingNumbers) (stream : List ℕ) (l : List (Event Text))
    → AreOctets stream
    → Accepts r o stream l
    ↔ (T (enough_to_read sizes r) × T (meaningful o) × Good (settings_of o) l
    × (stream ≡ strict (settings_of o) l))
exact r o stream l h = (
  λ q. let a =
      accepting r o stream q.0 q.1 in let g = accepts-good r o stream l h q in (a.enough, a.means, g.0, g.1),
  λ g. rw g.3 (good-accepted r o l g.0 g.1 g.2),
)

-- A list is answered to one stream (demand 3).
pub one-stream : (r : ReaderRoom) (o : SettingNumbers) (a b : List ℕ) (l : List (Event Text))
    → AreOctets a → AreOctets b
    → Accepts r o a l → Accepts r o b l → a ≡ b
one-stream r o a b l ha hb qa qb = (accepts-good r o a l ha qa).1 ∙ sym (accepts-good r o b l hb qb).1

-- No accepted stream begins a longer one (demand 3).
pub no-prefix : (r : ReaderRoom) (o : SettingNumbers) (a b : List ℕ) (l m : List (Event Text))
    → AreOctets (a ++ b)
    → Accepts r o a l → Accepts r o (a ++ b) m → b ≡ []
no-prefix r o a b l m h qa qb =
    let (g, i) = accepts-good r o a l (are-octets a (front-octets a b (octets-of (a ++ b) h))) qa in
    let (k, j) = accepts-good r o (a ++ b) m h qb in
    begins (settings_of o) l m b g k (ap (λ x. x ++ b) (sym i) ∙ j)

-- ---- the writer

-- What an accepting answer rests on.
record Writing (r : WriterRoom) (o : SettingNumbers) (xs : List Stored) (store : Text)
    (stream : List ℕ) : Type 0 where
  enough : T (enough_to_write sizes r)
  means : T (meaningful o)
  answer : write_list sizes (settings_of o) xs store ≡ accepted stream

writing : (r : WriterRoom) (o : SettingNumbers) (xs : List Stored) (store : Text) (stream : List ℕ)
    → write r o xs store ≡ accepted stream
    → Writing r o xs store stream
unfolding write
writing r o xs store stream q =
    split (enough_to_write sizes r)
    (λ e. split (meaningful o) (λ m. record {
      enough = is_t (enough_to_write sizes r) e;
      means = is_t (meaningful o) m;
      answer = rw (e, m) at q;
    })
    (λ m. not-accepted (rw (e, m) at q)))
    (λ e. not-accepted (rw e at q))

write-accepts : (r : WriterRoom) (o : SettingNumbers) (xs : List Stored) (store : Text)
    → T (enough_to_write sizes r) → T (meaningful o)
    → write r o xs store ≡ write_list sizes (settings_of o) xs store
unfolding write
write-accepts r o xs store e m = rw (T-is (enough_to_write sizes r) e, T-is (meaningful o) m)

-- The list behind a written stream.
record Behind (s : Settings) (xs : List Stored) (store : Text) (stream : List ℕ) : Type 0 where
  list : List (Event Text)
  meaning : meant store xs ≡ some list
  good : Good s list
  is : stream ≡ strict s list

written-list : (s : Settings) (xs : List Stored) (store : Text) (stream : List ℕ)
    → write_list sizes s xs store ≡ accepted stream → Behind s xs store stream
unfolding write_list as_octets strict
written-list s xs store stream q = go (write_events max_events sizes s (start s) store xs) refl q
  where
    go : (a : Answer Bits) → write_events max_events sizes s (start s) store xs ≡ a
        → as_octets sizes s a ≡ accepted stream → Behind s xs store stream
    go (refused k i) w q = not-accepted q
    go (accepted bs) w q =
        let (l, m, f, n, e) = write-sound max_events s (start s) store xs bs w in
        let octets = pack (unpack (header_of s) ++ bs) in
        let same : octets ≡ strict s l = ap (λ b. pack (unpack (header_of s) ++ b)) e in
        split (leb (length octets) max_stream)
        (λ t. record {
          list = l;
          meaning = m;
          good = good_of s l f n (subst (λ b. length b ≤ max_stream) same
              (leb→le (length octets) max_stream (is_t (leb (length octets) max_stream) t)));
          is = sym (accepted-same (rw t at q)) ∙ same;
        })
        (λ t. not-accepted (rw t at q))

list_written : (s : Settings) (xs : List Stored) (store : Text) (l : List (Event Text))
    → meant store xs ≡ some l → Good s l
    → write_list sizes s xs store ≡ accepted (strict s l)
unfolding write_list as_octets strict
list_written s xs store l m g =
    rw (
      write-complete max_events s (start s) store xs l m (fit_of s l g) g.limits.list.events,
      T-is (leb (length (strict s l)) max_stream)
          (le→leb (length (strict s l)) max_stream g.limits.octets),
    )

behind : (r : WriterRoom) (o : SettingNumbers) (xs : List Stored) (store : Text) (stream : List ℕ)
    → write r o xs store ≡ accepted stream
    → Behind (settings_of o) xs store stream
behind r o xs store stream q = written-list (settings_of o) xs store stream (writing r o xs store stream q).answer

-- What the reader accepts the writer gives back, octet for octet (demand 2).
pub written_back : (r : WriterRoom) (p : ReaderRoom) (o : SettingNumbers) (stream : List ℕ)
    (x : Reading) → T (enough_to_write sizes r) → AreOctets stream
    → read p o stream ≡ accepted x
    → write r o (map stored_of x.events) x.store ≡ accepted stream
written_back r p o stream x e h q =
    let l = map event_text x.events in
    let (g, i) = accepts-good p o stream l h (x, q, texts p o stream x q) in
    let m = (accepting p o stream x q).means in
    write-accepts r o (map stored_of x.events) x.store e m
    ∙ list_written (settings_of o) (map stored_of x.events) x.store l (texts p o stream x q) g
    ∙ ap accepted (sym i)

zero-written : (a : Answer (List ℕ)) → ((write_reply a).number ≡ 0)
    ↔ ((stream : List ℕ) × (a ≡ accepted stream))
unfolding write_reply
zero-written (refused k i) = (λ e. absurd (omega (arith, refusal-number k)), λ h. not-accepted h.1)
zero-written (accepted os) = (λ e. (os, refl), λ h. refl)

-- A list is written where the number is 0.
pub written-when-zero : (r : WriterRoom) (o : SettingNumbers) (xs : List Stored) (store : Text)
    → ((write_reply (write r o xs store)).number ≡ 0)
    ↔ ((stream : List ℕ) × (write r o xs store ≡ accepted stream))
written-when-zero r o xs store = zero-written (write r o xs store)

-- Written are exactly the good lists, in their strict forms (demand 2).
pub written : (r : WriterRoom) (o : SettingNumbers) (xs : List Stored) (store : Text)
    (stream : List ℕ)
    → (write r o xs store ≡ accepted stream)
    ↔ ((T (enough_to_write sizes r) × T (meaningful o))
    × ((l : List (Event Text)) × (meant store xs ≡ some l) × Good (settings_of o) l
    × (stream ≡ strict (settings_of o) l)))
written r o xs store stream = (
  λ q. let b = behind r o xs store stream q in
      let w = writing r o xs store stream q in
      ((w.enough, w.means), (b.list, b.meaning, b.good, b.is)),
  λ h. let g = h.1 in
      write-accepts r o xs store h.0.0 h.0.1
      ∙ list_written (settings_of o) xs store g.0 g.1 g.2 ∙ ap accepted (sym g.3),
)

-- Reading what was written returns the list (demand 2).
pub read_back : (r : WriterRoom) (p : ReaderRoom) (o : SettingNumbers) (xs : List Stored)
    (store : Text) (l : List (Event Text)) (stream : List ℕ)
    → T (enough_to_read sizes p) → meant store xs ≡ some l → write r o xs store ≡ accepted stream
    → Accepts p o stream l
read_back r p o xs store l stream e h q =
    let b = behind r o xs store stream q in
    let same : b.list ≡ l = some-injective b.list l (sym b.meaning ∙ h) in
    rw b.is (subst (Accepts p o (strict (settings_of o) b.list)) same
    (good-accepted p o b.list e (writing r o xs store stream q).means b.good))
