-- A whole stream: header, events and padding. `read_stream` accepts just the strict forms of lists
-- that may come after the start.
use mathlib.Core.Path.{◌≡◌, refl, sym, ◌∙◌, ap, subst⁻¹}
use mathlib.Core.List.{List, [], ◌∷◌, ◌++◌, map, append_assoc}
use Prim.Native.Nat.{ℕ, ◌≤◌}
use native.Mathlib.Omega.{arith}
use lib.ListN.{length}
use lib.Dec.{eqb, eqb→eq, eqb_refl}
use Rattle.spec_fields.specs.Bits.{Bits, bits_of, each, unpack}
use Rattle.spec_fields.specs.Refusal.{header, accepted}
use Rattle.spec_fields.specs.Parser.{Result, bad, got}
use Rattle.spec_fields.proofs.Tests.{split}
use Rattle.spec_fields.proofs.Exact.{Reads, Every, reads_as, reads-return, reads_then, reads-guard}
use Rattle.spec_fields.proofs.Exact.{got-value, got-rest}
use Rattle.spec_fields.proofs.Number.{IsOctet, octet-reads}
use Rattle.spec_fields.proofs.Pack.{Octets, unpack-pack, pack-unpack}
use Rattle.text.specs.Text.{Text}
use Rattle.spec_exi.specs.Event.{Event}
use Rattle.spec_exi.specs.Settings.{Settings, header_of}
use Rattle.spec_exi.specs.Sizes.{sizes, max_events}
use Rattle.spec_exi.specs.Tables.{event_text}
use Rattle.spec_exi.specs.Context.{Context, start, next}
use Rattle.spec_exi.specs.Strict.{event_bits, list_bits, strict}
use Rattle.spec_exi.specs.Reader.{Reading, step, read_header, read_body, read_stream}
use Rattle.spec_exi.specs.Grammar.{is_finished}
use Rattle.spec_exi.proofs.Fit.{ListFit, done, also}
use Rattle.spec_exi.proofs.Step.{step-reads, sane-start, step-found}
use Rattle.spec_exi.proofs.Body.{not-accepted, read-fit, ListFound, read_found}
use Rattle.spec_exi.proofs.Writes.{finished-no-fit}

-- ---- the header

-- Reading the header gives exactly its octets (EXI 5).
pub header-reads : (hs : List ℕ) → Every IsOctet hs → Reads (read_header hs) (λ x w. w ≡ unpack hs)
unfolding read_header unpack each
header-reads [] o = reads_as (reads-return tt) (λ x w h. h.empty) (λ x w h. record { is = refl; empty = h })
header-reads (h ∷ hs) o =
    reads_as (reads_then octet-reads (λ b u r. reads-guard (eqb b h) header (λ t. header-reads hs o.1)))
    (λ x w m. let same = eqb→eq m.first h m.two.0 in
    let b = m.one.1 in
    let c = m.two.1 in
    m.joined ∙ cc)
    (λ x w m.
    record {
      first = h;
      front = bits_of 8 h;
      back = each (bits_of 8) hs;
      one = (o.0, refl);
      two = (eqb_refl h, refl);
      joined = m;
    })

-- They are octets.
pub header-octets : (s : Settings) → Every IsOctet (header_of s)
unfolding header_of
header-octets s = split s.cookie (λ e. rw e (omega arith)) (λ e. rw e (omega arith))

-- ---- what is accepted, and what is read

-- A stream is the strict form of a list that may come after the start.
pub record Stream (s : Settings) (stream : List ℕ) (l : List (Event Text)) : Type 0 where
  pub fit : ListFit s (start s) l
  pub few : length l ≤ max_events
  pub is : stream ≡ strict s l

-- What is accepted is a strict form (demand 3, half of it).
pub stream-fit : (s : Settings) (stream : List ℕ) (r : Reading) → Octets stream → read_stream sizes s stream ≡ accepted r
    → Stream s stream (map event_text r.events)
unfolding read_stream read_body strict
stream-fit s stream r o q = go (read_header (header_of s) (unpack stream)) refl q
  where
    go : (x : Result (Unit {0})) → read_header (header_of s) (unpack stream) ≡ x
        → read_body sizes s x ≡ accepted r → Stream s stream (map event_text r.events)
    go (bad k) i q = not-accepted q
    go (got u bs) i q =
        let (w, h, j) = (header-reads (header_of s) (header-octets s)).sound (unpack stream) u bs i in
        let a = read-fit max_events s (start s) bs r (sane-start s) q in
        let l = map event_text r.events in
        let b = a.bits in
        let e : unpack stream ≡ unpack (header_of s) ++ (list_bits s (start s) l ++ a.padding) = cc in
        record {
          fit = a.fit;
          few = a.few;
          is = pack-unpack stream (unpack (header_of s) ++ list_bits s (start s) l) a.padding o
              (e ∙ sym (append_assoc (unpack (header_of s)) (list_bits s (start s) l) a.padding)) a.padded;
        }

-- A strict form is accepted (the other half).
pub stream-found : (s : Settings) (l : List (Event Text)) → ListFit s (start s) l
    → length l ≤ max_events → ListFound (read_stream sizes s (strict s l)) l
unfolding read_stream read_body strict start is_finished
stream-found s l h m =
    let hs = header_of s in
    let (z, e, p) = unpack-pack (unpack hs ++ list_bits s (start s) l) in
    let f = read_found s max_events (start s) l z h m p in
    record {
      reading = f.reading;
      answer = ap (λ b. read_body sizes s (read_header hs b)) (e ∙ append_assoc (unpack hs) (list_bits s (start s) l) z)
          ∙ ap (read_body sizes s) ((header-reads hs (header-octets s)).complete tt (unpack hs)
          (list_bits s (start s) l ++ z) refl) ∙ f.answer;
      is = f.is;
    }

-- ---- no list's bits begin another's

-- Lists and what comes after them.
pub record Same (l m : List (Event Text)) (x y : Bits) : Type 0 where
  pub lists : l ≡ m
  pub rests : x ≡ y

-- Bits that begin with the events of two lists begin with one list.
pub prefix-free : (s : Settings) (c : Context) (l m : List (Event Text)) (x y : Bits) → ListFit s c l → ListFit s c m
    → list_bits s c l ++ x ≡ list_bits s c m ++ y → Same l m x y
unfolding list_bits
prefix-free s c l m x y (done f) (done g) e = record { lists = refl; rests = e }
prefix-free s c l m x y (done f) (also d fit h) e = absurd (finished-no-fit s c d f fit)
prefix-free s c l m x y (also d fit h) (done g) e = absurd (finished-no-fit s c d g fit)
prefix-free s c l m x y (also {l = l₁} d fit h) (also {l = m₁} b fit₁ h₁) e =
    let p = step-found s c d fit in
    let q = step-found s c b fit₁ in
    let u = list_bits s (next s c d) l₁ ++ x in
    let v = list_bits s (next s c b) m₁ ++ y in
    let i = sym (append_assoc (event_bits s c d) (list_bits s (next s c d) l₁) x) ∙ e
    ∙ append_assoc (event_bits s c b) (list_bits s (next s c b) m₁) y in
    let k = sym ((step-reads sizes s c).complete (p.event, next s c d) (event_bits s c d) u p.read)
    ∙ ap (step sizes s c) i
    ∙ (step-reads sizes s c).complete (q.event, next s c b) (event_bits s c b) v q.read in
    let same : d ≡ b = sym p.is ∙ ap (λ y. event_text y.0) (got-value k) ∙ q.is in
    let r = prefix-free s (next s c d) l₁ m₁ x y h (subst⁻¹ (λ n. ListFit s (next s c n) m₁) same h₁)
    (got-rest k ∙ ap (λ n. list_bits s (next s c n) m₁ ++ y) (sym same)) in
    let lists = r.lists in
    record { lists = cc; rests = r.rests }
