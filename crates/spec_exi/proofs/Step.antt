-- One event is read exactly: what a step reads is an event that may come next, in its strict form;
-- and such an event is read.
use mathlib.Core.Path.{◌≡◌, refl, sym, ◌∙◌, ap, subst, subst⁻¹}
use mathlib.Core.List.{List, [], ◌∷◌, ◌++◌, append-nil}
use mathlib.Core.Bool.{Bool, true, false}
use mathlib.Core.Option.{Option, none, some, map}
use Prim.Native.Nat.{◌-◌}
use native.Mathlib.Omega.{arith}
use lib.Dec.{T, leb, le→leb}
use Rattle.spec_fields.specs.Bits.{Bits}
use Rattle.spec_fields.specs.Refusal.{loose, limit, shape}
use Rattle.spec_fields.proofs.Tests.{split, is_t, T-is}
use Rattle.spec_fields.proofs.Exact.{Reads, Every, reads_as, reads-return, reads_then, reads-guard}
use Rattle.text.specs.Text.{Text, text, is_empty, is_char, all_chars}
use Rattle.spec_exi.specs.Event.{QName, Event, start_document, end_document, end_element}
use Rattle.spec_exi.specs.Event.{start_element, attribute, characters, comment, instruction}
use Rattle.spec_exi.specs.Event.{Kind, SD, ED, SE, AT, EE, CH, CM, PI, kind_of, name_of}
use Rattle.spec_exi.specs.Event.{map_event}
use Rattle.spec_exi.specs.Settings.{Settings}
use Rattle.spec_exi.specs.Tables.{Placed, name_text, event_text, Tables, value, new_uri, new_name}
use Rattle.spec_exi.specs.Tables.{new_entry, new_value, laid, added, xml_uri, xsi_uri}
use Rattle.spec_exi.specs.Tables.{initial_entries, added_all, start_tables, gone, with_values}
use Rattle.spec_exi.specs.Grammar.{Production, unnamed, State, document, doc_content, doc_end}
use Rattle.spec_exi.specs.Grammar.{fragment_content}
use Rattle.spec_exi.specs.Grammar.{finished, start_tag, element_content, Site, eq_site, site_of}
use Rattle.spec_exi.specs.Grammar.{Learned, learned_in, learned_at, kept, levels_with, levels}
use Rattle.spec_exi.specs.Grammar.{Code, is_wildcard, code_of, same_code, code_bits, teaches}
use Rattle.spec_exi.specs.Grammar.{taught, learn, tag_allows}
use Rattle.spec_exi.specs.Context.{Context, start, levels_in, Item, item, name_items, items}
use Rattle.spec_exi.specs.Context.{after_item, after_items, entries_of, after, after_code, next}
use Rattle.spec_exi.specs.Strict.{items_bits, coded_bits, event_bits}
use Rattle.spec_exi.specs.Lists.{short, within_tables, within_grammars}
use Rattle.spec_exi.specs.Sizes.{Sizes, sizes, max_string, max_uris, max_names, max_values}
use Rattle.spec_exi.specs.Sizes.{max_store}
use Rattle.spec_exi.specs.Reader.{step}
use Rattle.spec_exi.proofs.Fit.{ItemsFit, EventFit}
use Rattle.spec_exi.proofs.Codes.{If-some, Valid, valid_same, valid-every, code_reads}
use Rattle.spec_exi.proofs.Codes.{code-of-valid, code-of-fits, same_code_lem, code_same}
use Rattle.spec_exi.proofs.Entries.{GoodString, GoodTables, every_append, items-good}
use Rattle.spec_exi.proofs.Content.{NameOk, ProductionOk, ContentRead, content-reads}
use Rattle.spec_exi.proofs.Content.{ContentFit, content-fit, content-found, entries-texts}
use Rattle.spec_exi.proofs.Content.{content-first}

-- ---- one step

-- An event, by any code of its state, and the context that it leaves. That the code is the strict
-- one is a condition of its own.
pub record StepRead (z : Sizes) (s : Settings) (c : Context) (y : Event Placed × Context) (w : Bits) : Type 0 where
  pub code : Code
  pub valid : Valid (levels_in s c) code
  pub tables : Tables
  pub content : Bits
  pub read : ContentRead z s c.tables c.state code.production.qname (y.0, tables) content
      code.production.kind
  pub tag : T (tag_allows c.tag (event_text y.0))
  pub strictly : T (same_code code.parts (code_of (levels_in s c) (event_text y.0)))
  pub leaves : y.1 ≡ after s c code tables (name_of y.0) (event_text y.0)
  pub grammars : T (within_grammars z y.1)
  pub joined : w ≡ code_bits s.alignment (levels_in s c) code.parts ++ content

-- Reading an event gives exactly what StepRead says, for any sizes.
pub step-reads : (z : Sizes) (s : Settings) (c : Context) → Reads (step z s c) (StepRead z s c)
unfolding step
step-reads z s c =
    reads_as
    (reads_then (code_reads s.alignment (levels_in s c)) (λ x u h.
    reads_then (content-reads z s c.tables c.state x.production.qname x.production.kind) (λ a v k.
    reads-guard (tag_allows c.tag (event_text a.0)) shape (λ t.
    reads-guard (same_code x.parts (code_of (levels_in s c) (event_text a.0))) loose (λ p.
    reads-guard (within_grammars z (after s c x a.1 (name_of a.0) (event_text a.0))) limit (λ q.
    reads-return (a.0, after s c x a.1 (name_of a.0) (event_text a.0))))))))
    (λ y w h.
    let m = h.two in
    let r = m.two.1.1.1 in
    rw r.is
    (record {
      code = h.first;
      valid = h.one.0;
      tables = m.first.1;
      content = m.front;
      read = m.one;
      tag = m.two.0;
      strictly = m.two.1.0;
      leaves = refl;
      grammars = m.two.1.1.0;
      joined = h.joined ∙ ap (λ b. h.front ++ b) (m.joined ∙ ap (λ b. m.front ++ b) r.empty
          ∙ append-nil m.front)
          ∙ ap (λ b. b ++ m.front) h.one.1;
    }))
    (λ y w h.
    record {
      first = h.code;
      front = code_bits s.alignment (levels_in s c) h.code.parts;
      back = h.content;
      one = (h.valid, refl);
      two = record {
        first = (y.0, h.tables);
        front = h.content;
        back = [];
        one = h.read;
        two = (
          h.tag,
          (
            h.strictly,
            (
              rw h.leaves at h.grammars,
              record { is = ap (λ d. (y.0, d)) h.leaves; empty = refl },
            ),
          ),
        );
        joined = sym (append-nil h.content);
      };
      joined = h.joined;
    })

-- ---- contexts that events can leave

-- A production carries what its kind may carry.
abbrev pub Sound : Production → Type 0
Sound p = ProductionOk p.kind p.qname

-- Good tables within the sizes, and good learned productions.
pub record Sane (c : Context) : Type 0 where
  pub tables : GoodTables c.tables
  pub room : T (within_tables sizes c.tables)
  pub learned : Every (λ x. Sound x.production) c.learned

-- What holds of every learned production and of those without a name holds of every production of
-- the levels.
module _ (P : Production → Type 0) where
  learned-every : (k : Site) (ls : List Learned) → Every (λ x. P x.production) ls
      → Every P (learned_in k ls)
  unfolding learned_in
  learned-every k [] h = tt
  learned-every k (x ∷ ls) h =
      split (eq_site k x.site) (λ e. rw e (h.0, learned-every k ls h.1))
      (λ e. rw e (learned-every k ls h.1))

  site-every : (o : Option Site) (ls : List Learned) → Every (λ x. P x.production) ls
      → Every P (learned_at o ls)
  unfolding learned_at
  site-every none ls h = tt
  site-every (some k) ls h = learned-every k ls h

  with-every : ((k : Kind) → P (unnamed k)) → (s : Settings) (ls : List Production) (st : State)
      → Every P ls → Every (Every P) (levels_with s ls st)
  unfolding levels_with kept
  with-every p s ls st h = go st
    where
      others : Every P (kept s)
      others = split s.comments (λ e. split s.instructions (λ f. rw (e, f) (p CM, (p PI, tt)))
          (λ f. rw (e, f) (p CM, tt)))
          (λ e. split s.instructions (λ f. rw (e, f) (p PI, tt)) (λ f. rw (e, f) tt))

      go : (st : State) → Every (Every P) (levels_with s ls st)
      go document = ((p SD, tt), tt)
      go doc_content = ((p SE, tt), (others, tt))
      go doc_end = ((p ED, tt), (others, tt))
      go fragment_content =
          (every_append P ls (unnamed SE ∷ unnamed ED ∷ []) h (p SE, (p ED, tt)), (others, tt))
      go finished = tt
      go (start_tag q outer) = (h, ((p EE, (p AT, (p SE, (p CH, tt)))), (others, tt)))
      go (element_content q outer) =
          (every_append P ls (unnamed EE ∷ []) h (p EE, tt), ((p SE, (p CH, tt)), (others, tt)))

  -- What holds of all learned productions and of those without a name holds of a state's.
  pub levels-every : ((k : Kind) → P (unnamed k)) → (s : Settings) (ls : List Learned) (st : State)
      → Every (λ x. P x.production) ls → Every (Every P) (levels s ls st)
  unfolding levels
  levels-every p s ls st h = with-every p s (learned_at (site_of st) ls) st (site-every (site_of st) ls h)

any-sound : (k : Kind) → Sound (unnamed k)
unfolding unnamed
any-sound = elim [ SD ↦ refl | ED ↦ refl | SE ↦ tt | AT ↦ tt | EE ↦ refl | CH ↦ refl | CM ↦ refl | PI ↦ refl ]

-- ---- what is read is fit, and what is fit is read

-- What an event teaches goes by where its name lies only if its name was written.
taught-alike : (f : QName Text → QName Placed) (ls : List Production) (x : Code) (e : Event Placed)
    → (T (is_wildcard x.production.qname) → name_of e ≡ map f (name_of (event_text e)))
    → taught ls x (kind_of (event_text e)) (name_of e)
    ≡ taught ls x (kind_of (event_text e)) (map f (name_of (event_text e)))
unfolding taught teaches kind_of name_of event_text map_event
taught-alike f ls x start_document h = refl
taught-alike f ls x end_document h = refl
taught-alike f ls x end_element h = refl
taught-alike f ls x (start_element q) h =
    split (is_wildcard x.production.qname)
    (λ b. rw b (ap (λ n. some (record { kind = SE; qname = n })) (h (is_t (is_wildcard x.production.qname) b))))
    (λ b. rw b)
taught-alike f ls x (attribute q v) h =
    split (is_wildcard x.production.qname)
    (λ b. rw b (ap (λ n. some (record { kind = AT; qname = n })) (h (is_t (is_wildcard x.production.qname) b))))
    (λ b. rw b)
taught-alike f ls x (characters v) h = refl
taught-alike f ls x (comment v) h = refl
taught-alike f ls x (instruction v w) h = refl

-- An event that is read strictly leaves what it leaves in the strict form.
leaves-next : (s : Settings) (c : Context) (x : Code) (t : Tables) (e : Event Placed)
    → code_of (levels_in s c) (event_text e) ≡ some x
    → t ≡ after_items c.tables (items c.state x.production (event_text e))
    → (T (is_wildcard x.production.qname) → name_of e ≡ map (entries_of t) (name_of (event_text e)))
    → after s c x t (name_of e) (event_text e) ≡ next s c (event_text e)
unfolding next after_code after
leaves-next s c x t e coded same h =
    rw (coded, ← same, taught-alike (entries_of t) (learned_at (site_of c.state) c.learned) x e h)

-- What is read is the event's own code, and then content that its production fits.
pub step-content : (s : Settings) (c : Context) (y : Event Placed × Context) (w : Bits) → Sane c
    → (h : StepRead sizes s c y w)
    → (code_of (levels_in s c) (event_text y.0) ≡ some h.code)
    × ContentFit s c.tables c.state h.code.production (event_text y.0) h.tables h.content
unfolding levels_in
step-content s c y w g h =
    let e = event_text y.0 in
    let (d, coded, parts) = same_code_lem h.code.parts (code_of (levels_in s c) e) h.strictly in
    let same : d ≡ h.code = valid_same (levels_in s c) d h.code (code-of-valid (levels_in s c) e d coded)
    h.valid parts in
    let sound = valid-every Sound (levels_in s c) h.code
    (levels-every Sound any-sound s c.learned c.state g.learned) h.valid in (
      coded ∙ ap some same,
      content-fit s c.tables c.state h.code.production.kind h.code.production.qname (y.0, h.tables)
          h.content g.tables
          g.room sound h.read,
    )

-- An event that is read leaves what the strict form's `next` leaves.
pub step-next : (s : Settings) (c : Context) (y : Event Placed × Context) (w : Bits) → Sane c → StepRead sizes s c y w
    → y.1 ≡ next s c (event_text y.0)
step-next s c y w g h =
    let (coded, m) = step-content s c y w g h in
    h.leaves ∙ leaves-next s c h.code h.tables y.0 coded m.after (content-first h.read)

-- An event that is read may come next, and has the strict form's bits.
pub step-fit : (s : Settings) (c : Context) (y : Event Placed × Context) (w : Bits) → Sane c → StepRead sizes s c y w
    → EventFit s c (event_text y.0) × (w ≡ event_bits s c (event_text y.0))
unfolding event_bits coded_bits
step-fit s c y w g h =
    let (coded, m) = step-content s c y w g h in (
      record {
        code = h.code;
        coded = coded;
        strings = m.strings;
        tag = h.tag;
        grammars = subst (λ d. T (within_grammars sizes d)) (step-next s c y w g h) h.grammars;
      },
      h.joined ∙ ap (λ b. code_bits s.alignment (levels_in s c) h.code.parts ++ b) m.bits
          ∙ ap (λ o. coded_bits s c o (event_text y.0)) (sym coded),
    )

-- An event, read from the bits of its strict form.
pub record StepFound (s : Settings) (c : Context) (e : Event Text) : Type 0 where
  pub event : Event Placed
  pub is : event_text event ≡ e
  pub read : StepRead sizes s c (event, next s c e) (event_bits s c e)

-- An event that may come next is read from the bits of its strict form.
pub step-found : (s : Settings) (c : Context) (e : Event Text) → EventFit s c e → StepFound s c e
unfolding event_bits coded_bits
step-found s c e h =
    let x = h.code in
    let m = content-found s c.tables c.state x.production.kind x.production.qname e
    (code-of-fits (levels_in s c) e x h.coded) h.strings in
    let coded : code_of (levels_in s c) (event_text m.event) ≡ some x = rw m.is h.coded in
    let after = leaves-next s c x m.tables m.event coded (rw m.is m.after) m.first in
    record {
      event = m.event;
      is = m.is;
      read = record {
        code = x;
        valid = code-of-valid (levels_in s c) e x h.coded;
        tables = m.tables;
        content = items_bits s.alignment c.tables (items c.state x.production e);
        read = m.read;
        tag = rw m.is h.tag;
        strictly = code_same x.parts (code_of (levels_in s c) (event_text m.event)) x coded refl;
        leaves = sym (after ∙ ap (next s c) m.is);
        grammars = h.grammars;
        joined = ap (λ o. coded_bits s c o e) h.coded;
      };
    }

-- ---- an event that may come next leaves such a context

items-room : (t : Tables) (is : List Item) → T (within_tables sizes t) → ItemsFit t is
    → T (within_tables sizes (after_items t is))
unfolding after_items
items-room t [] r h = r
items-room t (i ∷ is) r h = items-room (after_item t i) is h.0.room h.1

name-ok : (t : Tables) (p : Production) (attr : Bool) (q : QName Text) (is : List Item)
    → ItemsFit t (name_items p attr q ++ is) → NameOk attr q
unfolding name_items
name-ok t p attr q is h =
    record {
      uri_chars = h.0.chars;
      uri_small = h.0.small;
      local_chars = h.1.0.chars;
      local_small = h.1.0.small;
      named = h.1.0.named;
    }

-- What an event teaches is sound.
taught-sound : (t t' : Tables) (st : State) (ls : List Production) (x : Code) (e : Event Text)
    → ItemsFit t (items st x.production e)
    → If-some Sound (taught ls x (kind_of e) (map (entries_of t') (name_of e)))
unfolding taught kind_of name_of items name_items
taught-sound t t' st ls x e h = split (teaches ls x (kind_of e)) (λ b. rw b (sound e h)) (λ b. rw b tt)
  where
    looked-up : (attr : Bool) (q : QName Text) → NameOk attr q → NameOk attr (name_text (entries_of t' q))
    looked-up attr q n = subst⁻¹ (NameOk attr) (entries-texts t' q) n

    sound : (e : Event Text) → ItemsFit t (items st x.production e)
        → Sound (record { kind = kind_of e; qname = map (entries_of t') (name_of e) })
    sound start_document h = refl
    sound end_document h = refl
    sound end_element h = refl
    sound (start_element q) h = looked-up false q (name-ok t x.production false q [] h)
    sound (attribute q v) h = looked-up true q (name-ok t x.production true q (item (value q) v ∷ []) h)
    sound (characters v) h = refl
    sound (comment v) h = refl
    sound (instruction v w) h = refl

-- What holds of every learned production, and of the one that an event teaches, holds of all that
-- are learned after it.
pub learn-every : (P : Production → Type 0) (k : Option Site) (o : Option Production)
    (ls : List Learned) → If-some P o → Every (λ x. P x.production) ls
    → Every (λ x. P x.production) (learn k o ls)
unfolding learn
learn-every P none o ls h k = k
learn-every P (some j) none ls h k = k
learn-every P (some j) (some p) ls h k = (h, k)

-- An event that may come next leaves a sane context.
pub sane-next : (s : Settings) (c : Context) (e : Event Text) → Sane c → EventFit s c e → Sane (next s c e)
unfolding next after_code after
sane-next s c e g h =
    let is = items c.state h.code.production e in
    let t' = after_items c.tables is in
    let k = site_of c.state in
    rw h.coded
    (record {
      tables = items-good c.tables is g.tables h.strings;
      room = items-room c.tables is g.room h.strings;
      learned = learn-every Sound k (taught (learned_at k c.learned) h.code (kind_of e)
          (map (entries_of t') (name_of e)))
          c.learned (taught-sound c.tables t' c.state (learned_at k c.learned) h.code e h.strings)
          g.learned;
    })

-- No value is present at the start, whatever the capacity.
start-room : (s : Settings) → T (within_tables sizes (start s).tables)
unfolding start start_tables added_all initial_entries added new_uri new_name new_entry new_value with_values laid xml_uri xsi_uri
    text within_tables max_uris max_names
    max_values max_store
start-room s =
    let none : T (leb (0 - gone (start s).tables.values) max_values) =
    le→leb (0 - gone (start s).tables.values) max_values (omega arith) in
    rw (T-is (leb (0 - gone (start s).tables.values) max_values) none) tt

-- The context is sane at the start.
pub sane-start : (s : Settings) → Sane (start s)
unfolding start start_tables added_all initial_entries added new_uri new_name new_entry new_value with_values laid xml_uri xsi_uri
    text is_empty all_chars is_char short within_tables
    max_string max_uris max_names max_values max_store
sane-start s =
    let g : (x : Placed) → T (all_chars x.text) → T (short sizes x.text)
    → GoodString x = λ x c m. record { chars = c; small = m } in
    record {
      tables = record {
        uris = (g _ tt tt, (g _ tt tt, (g _ tt tt, tt)));
        names = (g _ tt tt, (g _ tt tt, (g _ tt tt, (g _ tt tt, (g _ tt tt, (g _ tt tt, tt))))));
        values = tt;
      };
      room = start-room s;
      learned = tt;
    }
