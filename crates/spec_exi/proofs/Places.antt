-- Every string of an accepted list lies where the reader says: the store that the reader leaves
-- holds it at its place. So does a name that a learned production carries: it lies where it lay
-- when it was learned, and the store only grows. No strict form is needed here.
use mathlib.Core.Path.{◌≡◌, refl, sym, ◌∙◌, ap, subst}
use mathlib.Core.List.{List, [], ◌∷◌, ◌++◌, map, append_assoc, append-nil}
use mathlib.Core.Bool.{Bool, true}
use mathlib.Core.Option.{Option, none, some}
use Prim.Native.Nat.{ℕ, ◌+◌}
use native.Mathlib.Omega.{arith}
use lib.ListN.{length, length-append}
use lib.Seq.{take-append_seam, drop-append_seam}
use lib.Dec.{leb, le→leb}
use Rattle.spec_fields.specs.Bits.{Bits}
use Rattle.spec_fields.specs.Refusal.{accepted}
use Rattle.spec_fields.proofs.Tests.{split, T-is}
use Rattle.spec_fields.proofs.Exact.{Every}
use Rattle.text.specs.Text.{Text, inside, part}
use Rattle.spec_exi.specs.Sizes.{Sizes, sizes}
use Rattle.spec_exi.specs.Event.{QName, Event, start_document, end_document, end_element}
use Rattle.spec_exi.specs.Event.{start_element, attribute, characters, comment, instruction}
use Rattle.spec_exi.specs.Event.{Kind, map_name, map_event, kind_of, name_of, strings_of}
use Rattle.spec_exi.specs.Settings.{Settings}
use Rattle.spec_exi.specs.Tables.{Placed, event_text, span_of, Tables, Role, Partitions, Form}
use Rattle.spec_exi.specs.Tables.{hit, literal, laid, added, tables_after, added_all}
use Rattle.spec_exi.specs.Tables.{start_tables, initial_entries}
use Rattle.spec_exi.specs.Grammar.{Production, unnamed, State, site_of, learned_at, teaches}
use Rattle.spec_exi.specs.Grammar.{taught}
use Rattle.spec_exi.specs.Context.{context_after, Context, start, levels_in, after}
use Rattle.spec_exi.specs.Lists.{every}
use Rattle.spec_exi.specs.Reader.{Reading, read_events}
use Rattle.spec_exi.specs.Meaning.{stored_of, meant_one, together, meant}
use Rattle.spec_exi.proofs.Codes.{If-some, valid-every}
use Rattle.spec_exi.proofs.Derivation.{Spelled, compact_hit, compact_miss, literal_hit}
use Rattle.spec_exi.proofs.Derivation.{literal_miss}
use Rattle.spec_exi.proofs.Strings.{StringRead}
use Rattle.spec_exi.proofs.Entries.{AllEntries, AllSlots, partitions-all, every-member}
use Rattle.spec_exi.proofs.Entries.{added-all}
use Rattle.spec_exi.proofs.Content.{NameRead, carried_name, written_name, ContentRead, an_sd}
use Rattle.spec_exi.proofs.Content.{an_ed, an_ee, an_se, an_at, a_ch, a_cm, a_pi}
use Rattle.spec_exi.proofs.Step.{StepRead, Sane, levels-every, step-next, step-fit}
use Rattle.spec_exi.proofs.Step.{learn-every, sane-next}
use Rattle.spec_exi.proofs.Body.{Run, ends, goes, read-runs}

-- ---- strings in a store

-- The store holds x at its place.
pub record Lies (store : Text) (x : Placed) : Type 0 where
  front : Text
  back : Text
  begins : x.place ≡ length front
  is : store ≡ front ++ x.text ++ back

lies-longer : (s y : Text) (x : Placed) → Lies s x → Lies (s ++ y) x
lies-longer s y x h =
    record {
      front = h.front;
      back = h.back ++ y;
      begins = h.begins;
      is = ap (λ z. z ++ y) h.is ∙ append_assoc (h.front ++ x.text) h.back y;
    }

laid-lies : (t : Tables) (y : Text) → Lies (t.store ++ y) (laid t y)
unfolding laid
laid-lies t y = record { front = t.store; back = []; begins = refl; is = sym (append-nil (t.store ++ y)) }

-- ---- what stays when a literal joins the tables stays throughout

-- What a literal does not take away.
abbrev pub Stable : (Tables → Type 0) → Type 0
Stable P = (t : Tables) (r : Role) (y : Text) → P t → P (added t r y)

module _ (P : Tables → Type 0) (stays : Stable P) where
  form-stays : (t : Tables) (r : Role) (f : Form) (y : Text) → P t → P (tables_after t r f y)
  unfolding tables_after
  form-stays t r (hit j i) y h = h
  form-stays t r literal y h = stays t r y h

  all_stay : (t : Tables) (xs : List (Role × Text)) → P t → P (added_all t xs)
  unfolding added_all
  all_stay t [] h = h
  all_stay t (x ∷ xs) h = all_stay (added t x.0 x.1) xs (stays t x.0 x.1 h)

  string-stays : {z : Sizes} {s : Settings} {t : Tables} {r : Role} {x : Placed × Tables} {w : Bits}
      → StringRead z s t r x w → P t → P x.1
  string-stays {t} {r} {x} h p = rw h.after (form-stays t r h.form x.0.text p)

  name-stays : {z : Sizes} {s : Settings} {t : Tables} {attr : Bool} {a : QName Placed × Tables} {w : Bits}
      {n : Option (QName Placed)} → NameRead z s t attr a w n → P t → P a.1
  name-stays (carried_name q i e) p = rw i p
  name-stays (written_name x y u v h l i e) p = rw i (string-stays l (string-stays h p))

  -- What no literal takes away holds after an event's content.
  pub content-stays : {z : Sizes} {s : Settings} {t : Tables} {st : State} {n : Option (QName Placed)}
      {c : Event Placed × Tables} {w : Bits} {k : Kind} → ContentRead z s t st n c w k → P t → P c.1
  content-stays (an_sd i j) p = rw i p
  content-stays (an_ed i j) p = rw i p
  content-stays (an_ee i j) p = rw i p
  content-stays (an_se a h i) p = rw i (name-stays h p)
  content-stays (an_at a x u v h l i j) p = rw i (string-stays l (name-stays h p))
  content-stays (a_ch x h i) p = rw i (string-stays h p)
  content-stays (a_cm x h i) p = rw i (string-stays h p)
  content-stays (a_pi x y u v h l i j) p = rw i (string-stays l (string-stays h p))

lies-stays : (x : Placed) → Stable (λ t. Lies t.store x)
unfolding added
lies-stays x t r y h = lies-longer t.store y x h

-- ---- entries

-- What follows of each follows of all.
pub every_map : {A : Type 0} {P Q : A → Type 0} → ((x : A) → P x → Q x) → (l : List A) → Every P l → Every Q l
every_map f [] h = tt
every_map f (x ∷ l) h = (f x h.0, every_map f l h.1)

-- Every entry lies in the store.
abbrev Filed : Tables → Type 0
Filed t = AllEntries (Lies t.store) t

filed-stays : Stable Filed
unfolding added
filed-stays t r y g =
    let longer = lies-longer t.store y in
    added-all (Lies (t.store ++ y)) t r y
    (record {
      uris = every_map longer t.uris g.uris;
      names = every_map longer (map (λ x. x.string) t.names) g.names;
      values = every_map longer (map (λ x. x.string) t.values.added) g.values;
    })
    (laid-lies t y)

-- A string that is read lies in the store after it.
spelled-lies : {s : Settings} {t : Tables} {ps : Partitions} {f : Form} {x : Placed} {w : Bits} (r : Role)
    → AllSlots (Lies t.store) ps → Spelled s t ps f x w → Lies (tables_after t r f x.text).store x
unfolding tables_after added laid
spelled-lies {t} r g (compact_hit {es = es} {i = i} {x = x} e) =
    every-member (If-some (Lies t.store)) es i (some x) g e
spelled-lies {t} r g (compact_miss {x = y} l) = laid-lies t y
spelled-lies {t} r g (literal_hit {ess = ess} {es = es} {j = j} {i = i} {x = x} k e n) =
    every-member (If-some (Lies t.store)) es i (some x)
    (every-member (Every (If-some (Lies t.store))) ess j es g k) e
spelled-lies {t} r g (literal_miss {x = y} l) = laid-lies t y

string-lies : {z : Sizes} {s : Settings} {t : Tables} {r : Role} {x : Placed × Tables} {w : Bits} → Filed t
    → StringRead z s t r x w → Lies x.1.store x.0
string-lies {t} {r} g h = rw h.after (spelled-lies r (partitions-all (Lies t.store) t r g) h.spelled)

-- Two strings that are read one after the other.
strings-lie : {z : Sizes} {s : Settings} {t : Tables} {r p : Role} {x y : Placed × Tables} {u v : Bits} → Filed t
    → StringRead z s t r x u → StringRead z s x.1 p y v → Every (Lies y.1.store) (x.0 ∷ y.0 ∷ [])
strings-lie {x} g h l =
    (string-stays _ (lies-stays x.0) l (string-lies g h), (string-lies (string-stays Filed filed-stays h g) l, tt))

-- ---- the strings of an event

-- A name's strings lie in a store.
abbrev NameLies : Text → QName Placed → Type 0
NameLies store q = Lies store q.uri × Lies store q.local

carries-stays : (n : Option (QName Placed)) → Stable (λ t. If-some (NameLies t.store) n)
carries-stays none t r y h = tt
carries-stays (some q) t r y h = (lies-stays q.uri t r y h.0, lies-stays q.local t r y h.1)

name-lies : {z : Sizes} {s : Settings} {t : Tables} {attr : Bool} {n : Option (QName Placed)}
    {a : QName Placed × Tables} {w : Bits} → Filed t → If-some (NameLies t.store) n → NameRead z s t attr a w n
    → NameLies a.1.store a.0
name-lies g k (carried_name q i e) = rw i k
name-lies g k (written_name x y u v h l i e) = let m = strings-lie g h l in rw i (m.0, m.1.0)

-- They lie in the store, and so does the event's name.
record EventLies (e : Event Placed) (t : Tables) : Type 0 where
  strings : Every (Lies t.store) (strings_of e)
  name : If-some (NameLies t.store) (name_of e)

content-lies : {z : Sizes} {s : Settings} {t : Tables} {st : State} {n : Option (QName Placed)}
    {c : Event Placed × Tables} {w : Bits} {k : Kind} → Filed t → If-some (NameLies t.store) n
    → ContentRead z s t st n c w k
    → EventLies c.0 c.1
unfolding strings_of name_of
content-lies g k (an_sd i j) = rw i (record { strings = tt; name = tt })
content-lies g k (an_ed i j) = rw i (record { strings = tt; name = tt })
content-lies g k (an_ee i j) = rw i (record { strings = tt; name = tt })
content-lies g k (an_se a h i) = let m = name-lies g k h in rw i (record { strings = (m.0, (m.1, tt)); name = m })
content-lies g k (an_at a x u v h l i j) =
    let m = string-stays _ (carries-stays (some a.0)) l (name-lies g k h) in
    rw i (record { strings = (m.0, (m.1, (string-lies (name-stays Filed filed-stays h g) l, tt))); name = m })
content-lies g k (a_ch x h i) = rw i (record { strings = (string-lies g h, tt); name = tt })
content-lies g k (a_cm x h i) = rw i (record { strings = (string-lies g h, tt); name = tt })
content-lies g k (a_pi x y u v h l i j) = rw i (record { strings = strings-lie g h l; name = tt })

-- ---- contexts

-- A name that p carries lies in the store.
abbrev Carries : Text → Production → Type 0
Carries store p = If-some (NameLies store) p.qname

-- Every entry, and every name that a production carries, lies in the store.
pub record Settled (c : Context) : Type 0 where
  filed : Filed c.tables
  learned : Every (λ x. Carries c.tables.store x.production) c.learned

-- It does at the start.
pub settled-start : (s : Settings) → Settled (start s)
unfolding start start_tables
settled-start s =
    record {
      filed = all_stay Filed filed-stays _ (initial_entries s) (record { uris = tt; names = tt; values = tt });
      learned = tt;
    }

-- An event leaves such a context, its strings lie in the store, and what lay there before does so
-- still.
pub record Settles (c : Context) (y : Event Placed × Context) : Type 0 where
  pub settled : Settled y.1
  pub strings : Every (Lies y.1.tables.store) (strings_of y.0)
  pub later : (x : Placed) → Lies c.tables.store x → Lies y.1.tables.store x

-- It does after an event, whose strings lie in the store too.
pub step-settles : {z : Sizes} {s : Settings} {c : Context} {y : Event Placed × Context} {w : Bits} → Settled c
    → StepRead z s c y w → Settles c y
unfolding after taught levels_in unnamed
step-settles {z} {s} {c} {y} b h =
    let t = c.tables in
    let k = site_of c.state in
    let ls = learned_at k c.learned in
    let e = event_text y.0 in
    let all = levels-every (Carries t.store) (λ k. tt) s c.learned c.state b.learned in
    let carries = valid-every (Carries t.store) (levels_in s c) h.code all h.valid in
    let lies = content-lies b.filed carries h.read in
    rw h.leaves
    (record {
      settled = record {
        filed = content-stays Filed filed-stays h.read b.filed;
        learned = learn-every (Carries h.tables.store) k (taught ls h.code (kind_of e) (name_of y.0))
            c.learned
            (split (teaches ls h.code (kind_of e)) (λ q. rw q lies.name) (λ q. rw q tt))
            (every_map (λ x. content-stays _ (carries-stays x.production.qname) h.read) c.learned
            b.learned);
      };
      strings = lies.strings;
      later = λ x q. content-stays _ (lies-stays x) h.read q;
    })

-- ---- the whole list

-- What lay in the store before is there still, and every string lies in it.
pub record Keeps (store : Text) (r : Reading) : Type 0 where
  pub later : (x : Placed) → Lies store x → Lies r.store x
  pub strings : Every (λ e. Every (Lies r.store) (strings_of e)) r.events

run-keeps : {z : Sizes} {s : Settings} {n : ℕ} {c : Context} {bs : Bits} {r : Reading} → Settled c → Run z s n c bs r
    → Keeps c.tables.store r
run-keeps b (ends f p) = record { later = λ x h. h; strings = tt }
run-keeps b (goes y w h k) =
    let m = step-settles b h in
    let rest = run-keeps m.settled k in
    record {
      later = λ x q. rest.later x (m.later x q);
      strings = (every_map rest.later (strings_of y.0) m.strings, rest.strings);
    }

-- A string that lies in the store is found there.
lies-inside : (s : Text) (x : Placed) → Lies s x → inside s (span_of x) ≡ true
unfolding inside span_of
lies-inside s x h =
    let n = length-append (h.front ++ x.text) h.back in
    let m = length-append h.front x.text in
    let l = ap length h.is in
    T-is (leb (x.place + length x.text) (length s))
    (le→leb (x.place + length x.text) (length s) (omega (arith, h.begins)))

lies-part : (s : Text) (x : Placed) → Lies s x → part s (span_of x) ≡ x.text
unfolding part span_of
lies-part s x h =
    rw (
      lies-inside s x h,
      h.begins,
      h.is,
      append_assoc h.front x.text h.back,
      drop-append_seam h.front (x.text ++ h.back),
      take-append_seam x.text h.back,
    )

meant-one : (s : Text) (e : Event Placed) → Every (Lies s) (strings_of e) → meant_one s (stored_of e) ≡ some (event_text e)
unfolding strings_of stored_of meant_one map_event map_name event_text every
meant-one s start_document h = refl
meant-one s end_document h = refl
meant-one s end_element h = refl
meant-one s (start_element q) h = simp (lies-inside s, lies-part s, h.0, h.1.0)
meant-one s (attribute q v) h = simp (lies-inside s, lies-part s, h.0, h.1.0, h.1.1.0)
meant-one s (characters v) h = simp (lies-inside s, lies-part s, h.0)
meant-one s (comment x) h = simp (lies-inside s, lies-part s, h.0)
meant-one s (instruction x y) h = simp (lies-inside s, lies-part s, h.0, h.1.0)

-- Events whose strings lie in the store mean their texts.
pub meant-all : (s : Text) (es : List (Event Placed)) → Every (λ e. Every (Lies s) (strings_of e)) es
    → meant s (map stored_of es) ≡ some (map event_text es)
unfolding meant together
meant-all s [] h = refl
meant-all s (e ∷ es) h = rw (meant-one s e h.0, meant-all s es h.1)

-- Each string of an accepted list, looked up in the store, is that string.
pub read-places : (z : Sizes) (s : Settings) (n : ℕ) (c : Context) (bs : Bits) (r : Reading) → Settled c
    → read_events n z s c bs ≡ accepted r
    → meant r.store (map stored_of r.events) ≡ some (map event_text r.events)
read-places z s n c bs r b q = meant-all r.store r.events (run-keeps b (read-runs z s n c bs r q)).strings

-- The store at the end is that of the context that the strict form leaves.
run_store : {s : Settings} {n : ℕ} {c : Context} {bs : Bits} {r : Reading} → Sane c → Run sizes s n c bs r
    → r.store ≡ (context_after s c (map event_text r.events)).tables.store
unfolding context_after
run_store g (ends f p) = refl
run_store {s} {n} {c} g (goes {r = r} y w h k) =
    let e = event_text y.0 in
    let same = step-next s c y w g h in
    run_store (subst Sane (sym same) (sane-next s c e g (step-fit s c y w g h).0)) k
    ∙ ap (λ d. (context_after s d (map event_text r.events)).tables.store) same

-- The store of an accepted list is the strict form's.
pub read-store : (n : ℕ) (s : Settings) (c : Context) (bs : Bits) (r : Reading) → Sane c
    → read_events n sizes s c bs ≡ accepted r
    → r.store ≡ (context_after s c (map event_text r.events)).tables.store
read-store n s c bs r g q = run_store g (read-runs sizes s n c bs r q)
