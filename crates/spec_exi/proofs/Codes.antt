-- Event codes: which parts are a code of a state's levels, that `code_of` gives such a code to just
-- the events that the state allows, and that `read_code` reads just such codes.
use Prim.Native.Nat.{ℕ, zero, suc}
use mathlib.Core.Path.{◌≡◌, refl, sym, ◌∙◌, ap}
use mathlib.Core.Bool.{Bool, true, false, cond, ◌||◌, or-true, or-false}
use mathlib.Core.List.{List, [], ◌∷◌, ◌++◌, map}
use mathlib.Core.Option
use mathlib.Core.Option.{Option, none, some, none-ne-some}
use lib.ListN.{length, get_or, get_elem?}
use lib.Dec.{T, eqb, eqb→eq}
use Rattle.spec_fields.specs.Bits.{Bits}
use Rattle.spec_fields.specs.Refusal.{code}
use Rattle.spec_fields.specs.Field.{Alignment, choice_bits}
use Rattle.spec_fields.proofs.Tests.{is_t, both, left, right, split}
use Rattle.spec_fields.proofs.Exact.{Reads, Returned, Then, Every, reads_as, reads-return}
use Rattle.spec_fields.proofs.Exact.{reads-fail, reads_then, reads-map}
use Rattle.spec_fields.proofs.Number.{Chosen, choice-reads}
use Rattle.text.specs.Text.{Text, eq_text}
use Rattle.text.proofs.Equal.{eq_text-refl, eq_text-eq}
use Rattle.spec_exi.specs.Event.{QName, Event, start_document, end_document, end_element}
use Rattle.spec_exi.specs.Event.{start_element, attribute, characters, comment, instruction}
use Rattle.spec_exi.specs.Event.{Kind, SD, ED, SE, AT, EE, CH, CM, PI, kind_of, name_of, eq_name}
use Rattle.spec_exi.specs.Settings.{Settings}
use Rattle.spec_exi.specs.Tables.{Placed}
use Rattle.spec_exi.specs.Grammar.{Production, unnamed, kind_number, fits_name, fits, State}
use Rattle.spec_exi.specs.Grammar.{document, doc_content, doc_end, finished, start_tag}
use Rattle.spec_exi.specs.Grammar.{fragment_content, fragment}
use Rattle.spec_exi.specs.Grammar.{element_content, Learned, Site, tag_of, content_of, eq_site}
use Rattle.spec_exi.specs.Grammar.{site_of, learned_in, learned_at, kept, levels_with, levels}
use Rattle.spec_exi.specs.Grammar.{all_empty, choices, Code, at_level, below, code_bits, raised}
use Rattle.spec_exi.specs.Grammar.{first_fit, code_or, code_of, same_code, teaches, taught, learn}
use Rattle.spec_exi.specs.Reader.{read_part, read_code}
use Rattle.spec_exi.proofs.Shape.{allowed}

module _ {A : Type 0} where
  -- P holds of the value, where there is one.
  abbrev pub If-some : (A → Type 0) → Option A → Type 0
  If-some P none = Unit {0}
  If-some P (some a) = P a

  every-at : (P : A → Type 0) (l : List A) (i : ℕ) → Every P l → If-some P (get_elem? l i)
  every-at P [] i h = tt
  every-at P (a ∷ l) zero h = h.0
  every-at P (a ∷ l) (suc i) h = every-at P l i h.1

-- ---- names and kinds

-- A name is the same as itself.
pub eq_name-refl : (q : QName Text) → T (eq_name q q)
unfolding eq_name
eq_name-refl q =
    both (eq_text q.uri q.uri) (eq_text q.local q.local) (eq_text-refl q.uri) (eq_text-refl q.local)

-- Names that the test finds the same are equal.
pub eq_name-eq : (p q : QName Text) → T (eq_name p q) → p ≡ q
unfolding eq_name
eq_name-eq p q t =
    let u = eq_text-eq p.uri q.uri (left (eq_text p.uri q.uri) (eq_text p.local q.local) t) in
    let n = eq_text-eq p.local q.local (right (eq_text p.uri q.uri) (eq_text p.local q.local) t) in
    λ i. record { uri = u i; local = n i }

-- The kind with this number.
kind_at : ℕ → Kind
kind_at n = get_or (SD ∷ ED ∷ SE ∷ AT ∷ EE ∷ CH ∷ CM ∷ []) n PI

kind-at : (k : Kind) → kind_at (kind_number k) ≡ k
unfolding kind_at kind_number
kind-at = elim [ SD ↦ refl | ED ↦ refl | SE ↦ refl | AT ↦ refl | EE ↦ refl | CH ↦ refl | CM ↦ refl | PI ↦ refl ]

-- Kinds that the test finds the same are equal.
pub same_kind : (k l : Kind) → T (eqb (kind_number k) (kind_number l)) → k ≡ l
same_kind k l t = cc (kind-at k, kind-at l, eqb→eq (kind_number k) (kind_number l) t)

-- A production fits events of its kind.
pub fits-kind : (p : Production) (e : Event Text) → T (fits p e) → p.kind ≡ kind_of e
unfolding fits
fits-kind p e t =
    same_kind p.kind (kind_of e) (left (eqb (kind_number p.kind) (kind_number (kind_of e)))
    (fits_name p.qname (name_of e)) t)

-- ---- the codes of levels

-- What parts name whose first is the choice o and whose others, vs, name p in the later levels.
follow : Option (Option Production) → List ℕ → Option Production → Option Production
follow none vs p = none
follow (some none) vs p = p
follow (some (some q)) [] p = some q
follow (some (some q)) (v ∷ vs) p = none

chosen : (o : Option (Option Production)) (vs : List ℕ) (q : Option Production) (p : Production)
    → follow o vs q ≡ some p
    → (c : Option Production) × (o ≡ some c)
unfolding follow
chosen none vs q p h = absurd (none-ne-some p h)
chosen (some c) vs q p h = (c, refl)

-- The production that has these parts for its code.
named : List (List Production) → List ℕ → Option Production
named [] vs = none
named (l ∷ ls) [] = none
named (l ∷ ls) (v ∷ vs) = follow (get_elem? (choices l ls) v) vs (named ls vs)

-- A code whose parts lead to its production.
pub Valid : List (List Production) → Code → Type 0
Valid ls x = named ls x.parts ≡ some x.production

-- The parts determine the production.
pub valid_same : (ls : List (List Production)) (x y : Code) → Valid ls x → Valid ls y → x.parts ≡ y.parts → x ≡ y
unfolding Valid
valid_same ls x y v w e = let p : x.production ≡ y.production = cc in λ i. record { parts = e i; production = p i }

module _ (P : Production → Type 0) where
  choices-every : (l : List Production) (ls : List (List Production)) → Every P l → Every (If-some P) (choices l ls)
  unfolding choices
  choices-every [] ls h = split (all_empty ls) (λ b. rw b tt) (λ b. rw b (tt, tt))
  choices-every (p ∷ l) ls h = (h.0, choices-every l ls h.1)

  named-every : (ls : List (List Production)) (vs : List ℕ) → Every (Every P) ls → If-some P (named ls vs)
  unfolding named follow
  named-every [] vs h = tt
  named-every (l ∷ ls) [] h = tt
  named-every (l ∷ ls) (v ∷ vs) h =
      go (get_elem? (choices l ls) v) vs (every-at (If-some P) (choices l ls) v (choices-every l ls h.0))
      (named-every ls vs h.1)
    where
      go : (o : Option (Option Production)) (vs : List ℕ) → If-some (If-some P) o
          → If-some P (named ls vs) → If-some P (follow o vs (named ls vs))
      go none vs h k = tt
      go (some none) vs h k = k
      go (some (some p)) [] h k = h
      go (some (some p)) (w ∷ vs) h k = tt

-- What holds of every production of the levels holds of a valid code's.
pub valid-every : (P : Production → Type 0) (ls : List (List Production)) (x : Code)
    → Every (Every P) ls → Valid ls x → P x.production
unfolding Valid
valid-every P ls x h v = rw v at (named-every P ls x.parts h)

-- Where there is a code, some level has productions.
not-empty : (ls : List (List Production)) (vs : List ℕ) (p : Production) → named ls vs ≡ some p → all_empty ls ≡ false
unfolding named follow all_empty choices
not-empty [] vs p h = absurd (none-ne-some p h)
not-empty (l ∷ ls) [] p h = absurd (none-ne-some p h)
not-empty ([] ∷ ls) (v ∷ vs) p h = go (all_empty ls) h
  where
    go : (b : Bool) → follow (get_elem? (cond b [] (none ∷ [])) v) vs (named ls vs) ≡ some p → b ≡ false
    go true h = absurd (none-ne-some p h)
    go false h = refl
not-empty ((q ∷ l) ∷ ls) (v ∷ vs) p h = refl

-- The value after a level's productions.
next_level : (l : List Production) → get_elem? (map some l ++ (none ∷ [])) (length l) ≡ some none
next_level [] = refl
next_level (p ∷ l) = next_level l

-- ---- the code of an event

-- A production of the level that fits, with its number among the choices.
record Found (l : List Production) (e : Event Text) (x : ℕ × Production) : Type 0 where
  at : (more : List (Option Production)) → get_elem? (map some l ++ more) x.0 ≡ some (some x.1)
  fit : T (fits x.1 e)

found : (l : List Production) (e : Event Text) → If-some (Found l e) (first_fit l e)
unfolding first_fit raised
found [] e = tt
found (p ∷ ps) e = go (fits p e) refl (first_fit ps e) (found ps e)
  where
    go : (b : Bool) → fits p e ≡ b → (o : Option (ℕ × Production)) → If-some (Found ps e) o
        → If-some (Found (p ∷ ps) e) (cond b (some (0, p)) (Option.map raised o))
    go true t o f = record { at = λ more. refl; fit = is_t (fits p e) t }
    go false t none f = tt
    go false t (some x) f = record { at = f.at; fit = f.fit }

record Coded (ls : List (List Production)) (e : Event Text) (x : Code) : Type 0 where
  valid : Valid ls x
  fit : T (fits x.production e)

coded : (ls : List (List Production)) (e : Event Text) → If-some (Coded ls e) (code_of ls e)
unfolding code_of code_or Valid named follow at_level below choices
coded [] e = tt
coded (l ∷ ls) e = go (first_fit l e) (found l e) (code_of ls e) (coded ls e)
  where
    go : (o : Option (ℕ × Production)) → If-some (Found l e) o → (c : Option Code) → If-some (Coded ls e) c
        → If-some (Coded (l ∷ ls) e) (code_or o (Option.map (below (length l)) c))
    go (some x) f c g = record { valid = rw (f.at (cond (all_empty ls) [] (none ∷ []))); fit = f.fit }
    go none f none g = tt
    go none f (some y) g = record {
      valid = rw (not-empty ls y.parts y.production g.valid, next_level l)
          g.valid;
      fit = g.fit;
    }

coded-as : (ls : List (List Production)) (e : Event Text) (x : Code) → code_of ls e ≡ some x → Coded ls e x
coded-as ls e x h = rw h at (coded ls e)

-- The code of an event in the strict form is one of the levels'.
pub code-of-valid : (ls : List (List Production)) (e : Event Text) (x : Code) → code_of ls e ≡ some x → Valid ls x
code-of-valid ls e x h = (coded-as ls e x h).valid

-- Its production fits the event.
pub code-of-fits : (ls : List (List Production)) (e : Event Text) (x : Code) → code_of ls e ≡ some x
    → T (fits x.production e)
code-of-fits ls e x h = (coded-as ls e x h).fit

-- Parts that the test finds the strict form's are those of a code.
pub same_code_lem : (vs : List ℕ) (o : Option Code) → T (same_code vs o) → (x : Code) × (o ≡ some x) × (x.parts ≡ vs)
unfolding same_code
same_code_lem vs none t = absurd t
same_code_lem vs (some x) t = (x, refl, sym (eq_text-eq vs x.parts t))

-- The parts of the strict form's code pass the test.
pub code_same : (vs : List ℕ) (o : Option Code) (x : Code) → o ≡ some x → x.parts ≡ vs → T (same_code vs o)
unfolding same_code
code_same vs o x h e = rw (h, e) (eq_text-refl vs)

-- ---- codes are read exactly

module _ (a : Alignment) (ls : List (List Production)) where
  no-parts : code_bits a ls [] ≡ []
  unfolding code_bits
  no-parts = elim ls as (λ ls. code_bits a ls [] ≡ []) [ [] ↦ refl | l ∷ ls ↦ refl ]

  -- A code whose first part is v, for the choice o, and whose others have the bits w.
  record From (v : ℕ) (o : Option Production) (x : Code) (w : Bits) : Type 0 where
    others : List ℕ
    parts : x.parts ≡ v ∷ others
    names : follow (some o) others (named ls others) ≡ some x.production
    bits : w ≡ code_bits a ls others

  part-reads : (v : ℕ) (o : Option Production)
      → Reads (read_code a ls) (λ x w. Valid ls x × (w ≡ code_bits a ls x.parts))
      → Reads (read_part v o (read_code a ls)) (From v o)
  unfolding read_part at_level below Valid follow
  part-reads v none h =
      reads_as (reads-map h (below v))
      (λ x w m. record { others = m.from.parts; parts = ap (λ y. y.parts) m.is; names = cc; bits = m.by.1 })
      (λ x w r. record {
        from = record { parts = r.others; production = x.production };
        by = (r.names, r.bits);
        is = λ i. record { parts = r.parts i; production = x.production };
      })
  part-reads v (some p) h =
      reads_as (reads-return (at_level v p))
      (λ x w m. record { others = []; parts = ap (λ y. y.parts) m.is; names = cc; bits = cc no-parts })
      (λ x w r. last x w r.others r.parts r.names r.bits)
    where
      last : (x : Code) (w : Bits) (vs : List ℕ) → x.parts ≡ v ∷ vs
          → follow (some (some p)) vs (named ls vs) ≡ some x.production
          → w ≡ code_bits a ls vs → Returned (at_level v p) x w
      last x w [] e n b =
          let q : x.production ≡ p = cc in
          record { is = λ i. record { parts = e i; production = q i }; empty = b ∙ no-parts }
      last x w (u ∷ vs) e n b = absurd (none-ne-some x.production n)

-- Reading a code gives exactly the codes of the levels (EXI 6.2).
pub code_reads : (a : Alignment) (ls : List (List Production))
    → Reads (read_code a ls) (λ x w. Valid ls x × (w ≡ code_bits a ls x.parts))
unfolding read_code Valid named code_bits
code_reads a [] = reads_as (reads-fail code) (λ x w h. absurd h) (λ x w h. none-ne-some x.production h.0)
code_reads a (l ∷ ls) =
    reads_as (reads_then (choice-reads a code (choices l ls))
    (λ c u r. part-reads a ls c.0 c.1 (code_reads a ls)))
    (λ x w t. (cc, cc))
    (λ x w h. from x.parts x.production w h.0 h.1)
  where
    from : (vs : List ℕ) (p : Production) (w : Bits) → named (l ∷ ls) vs ≡ some p → w ≡ code_bits a (l ∷ ls) vs
        → Then (Chosen a (choices l ls)) (λ c. From a ls c.0 c.1) (record { parts = vs; production = p }) w
    from [] p w n b = absurd (none-ne-some p n)
    from (v ∷ vs) p w n b =
        let (o, e) = chosen (get_elem? (choices l ls) v) vs (named ls vs) p n in
        record {
          first = (v, o);
          front = choice_bits a (length (choices l ls)) v;
          back = code_bits a ls vs;
          one = record { names = e; bits = refl };
          two = record { others = vs; parts = refl; names = rw e at n; bits = refl };
          joined = b;
        }

-- ---- which events have a code: those that the state allows

module _ {A : Type 0} where
  abbrev is_some : Option A → Bool
  is_some none = false
  is_some (some a) = true

  is-some : (o : Option A) → T (is_some o) → (a : A) × (o ≡ some a)
  is-some none t = absurd t
  is-some (some a) t = (a, refl)

-- A production of the level fits, or b.
one_fits : List Production → Event Text → Bool → Bool
one_fits [] e b = b
one_fits (p ∷ ps) e b = fits p e || one_fits ps e b

level-coded : (l : List Production) (e : Event Text) (c : Option Code)
    → is_some (code_or (first_fit l e) c) ≡ one_fits l e (is_some c)
unfolding code_or first_fit one_fits
level-coded [] e c = refl
level-coded (p ∷ ps) e c = go (fits p e) (first_fit ps e) (level-coded ps e c)
  where
    go : (b : Bool) (o : Option (ℕ × Production)) → is_some (code_or o c) ≡ one_fits ps e (is_some c)
        → is_some (code_or (cond b (some (0, p)) (Option.map raised o)) c) ≡ (b || one_fits ps e (is_some c))
    go true o h = refl
    go false none h = h
    go false (some x) h = h

coded-level : (l : List Production) (ls : List (List Production)) (e : Event Text)
    → is_some (code_of (l ∷ ls) e) ≡ one_fits l e (is_some (code_of ls e))
unfolding code_of
coded-level l ls e = rw level-coded (ap (one_fits l e) (go (code_of ls e)))
  where
    go : (o : Option Code) → is_some (Option.map (below (length l)) o) ≡ is_some o
    go none = refl
    go (some x) = refl

coded_none : (e : Event Text) → is_some (code_of [] e) ≡ false
unfolding code_of
coded_none e = refl

fits-append : (l m : List Production) (e : Event Text) (b : Bool) → one_fits (l ++ m) e b ≡ one_fits l e (one_fits m e b)
unfolding one_fits
fits-append [] m e b = refl
fits-append (p ∷ l) m e b = rw (fits-append l m e b)

-- A production that is kept where c says.
fits_kept : (c : Bool) (p : Production) (e : Event Text) (b : Bool)
    → one_fits (cond c (p ∷ []) []) e b ≡ cond (fits p e) (b || c) b
unfolding one_fits
fits_kept true p e b = split (fits p e) (λ h. rw (h, or-true)) (λ h. rw h)
fits_kept false p e b = split (fits p e) (λ h. rw (h, or-false)) (λ h. rw h)

ruleset coding = (coded-level, coded_none, fits-append, fits_kept)

fits_more : (l : List Production) (e : Event Text) (b : Bool) → T b → T (one_fits l e b)
unfolding one_fits
fits_more [] e b t = t
fits_more (p ∷ l) e b t = split (fits p e) (λ h. rw h tt) (λ h. rw h (fits_more l e b t))

-- Two tests agree on all events where their tables, a column for each kind of event, are the same.
record Agree (f g : Event Text → Bool) : Type 0 where
  at : (e : Event Text) → f e ≡ g e

abbrev Table : Type 0
Table =
    Bool × Bool × Bool × (QName Text → Bool) × (QName Text → Text → Bool) × (Text → Bool) × (Text → Bool)
    × (Text → Text → Bool)

abbrev table : (Event Text → Bool) → Table
table f = (
  f start_document,
  f end_document,
  f end_element,
  λ q. f (start_element q),
  λ q v. f (attribute q v),
  λ v. f (characters v),
  λ x. f (comment x),
  λ x y. f (instruction x y),
)

agree : {f g : Event Text → Bool} → table f ≡ table g → Agree f g
agree {f} {g} h = record { at = go }
  where
    go : (e : Event Text) → f e ≡ g e
    go start_document = λ i. (h i).0
    go end_document = λ i. (h i).1
    go end_element = λ i. (h i).2
    go (start_element q) = λ i. (h i).3 q
    go (attribute q v) = λ i. (h i).4 q v
    go (characters v) = λ i. (h i).5 v
    go (comment x) = λ i. (h i).6 x
    go (instruction x y) = λ i. (h i).7 x y

-- A state has codes for the events that it allows, and for those that its learned productions fit.
coded-allowed : (s : Settings) (ls : List Learned) (st : State)
    → Agree (λ e. is_some (code_of (levels s ls st) e)) (λ e. one_fits (learned_at (site_of st) ls) e (allowed s st e))
unfolding one_fits levels levels_with kept learned_at site_of allowed fits unnamed kind_number name_of fits_name
coded-allowed s ls document = agree (simp coding)
coded-allowed s ls doc_content = agree (simp coding)
coded-allowed s ls doc_end = agree (simp coding)
coded-allowed s ls fragment_content = agree (simp coding)
coded-allowed s ls finished = agree (simp coding)
coded-allowed s ls (start_tag q outer) = agree (simp coding)
coded-allowed s ls (element_content q outer) = agree (simp coding)

-- An event that the shape allows has a code.
pub code-of-allowed : (s : Settings) (ls : List Learned) (st : State) (e : Event Text) → T (allowed s st e)
    → (x : Code) × (code_of (levels s ls st) e ≡ some x)
code-of-allowed s ls st e t =
    is-some (code_of (levels s ls st) e) (rw ((coded-allowed s ls st).at e)
    (fits_more (learned_at (site_of st) ls) e (allowed s st e) t))

-- ---- learned productions bring no other events

-- What is learned where a state learns fits only events that the state allows.
pub LearnedOk : Settings → List Learned → Type 0
LearnedOk s ls =
    (st : State) (e : Event Text) → T (one_fits (learned_at (site_of st) ls) e (allowed s st e))
    → T (allowed s st e)

-- At the start nothing is learned.
pub learned-ok-start : (s : Settings) → LearnedOk s []
unfolding LearnedOk learned_at learned_in one_fits
learned-ok-start s st e t = go (site_of st) t
  where
    go : (k : Option Site) → T (one_fits (learned_at k []) e (allowed s st e)) → T (allowed s st e)
    go none t = t
    go (some k) t = t

-- An event that has a code is one that the shape allows.
pub allowed-of-code : (s : Settings) (ls : List Learned) (st : State) (e : Event Text) (x : Code)
    → LearnedOk s ls → code_of (levels s ls st) e ≡ some x → T (allowed s st e)
unfolding LearnedOk
allowed-of-code s ls st e x ok h =
    let t : T (is_some (code_of (levels s ls st) e)) = rw h tt in
    ok st e (rw ((coded-allowed s ls st).at e) at t)

-- What is learned has the kind of the event.
taught-kind : (ls : List Production) (x : Code) (k : Kind) (q : Option (QName Placed))
    → If-some (λ p. p.kind ≡ k) (taught ls x k q)
unfolding taught
taught-kind ls x k q = split (teaches ls x k) (λ t. rw t refl) (λ t. rw t tt)

-- Where a state learns, its site and the kind decide what is allowed.
permits : Settings → Site → Kind → Bool
permits s (tag_of q) k =
    elim k [
      | SD ↦ false
      | ED ↦ false
      | SE ↦ true
      | AT ↦ true
      | EE ↦ true
      | CH ↦ true
      | CM ↦ s.comments
      | PI ↦ s.instructions
    ]
permits s (content_of q) k =
    elim k [
      | SD ↦ false
      | ED ↦ false
      | SE ↦ true
      | AT ↦ false
      | EE ↦ true
      | CH ↦ true
      | CM ↦ s.comments
      | PI ↦ s.instructions
    ]
permits s fragment k =
    elim k [
      | SD ↦ false
      | ED ↦ true
      | SE ↦ true
      | AT ↦ false
      | EE ↦ false
      | CH ↦ false
      | CM ↦ s.comments
      | PI ↦ s.instructions
    ]

abbrev Decides : Settings → State → Site → Type 0
Decides s st k = (e : Event Text) → allowed s st e ≡ permits s k (kind_of e)

site-decides : (s : Settings) (st : State) → If-some (Decides s st) (site_of st)
unfolding site_of allowed permits
site-decides s document = tt
site-decides s doc_content = tt
site-decides s doc_end = tt
site-decides s fragment_content = λ e. refl
site-decides s finished = tt
site-decides s (start_tag q outer) = λ e. refl
site-decides s (element_content q outer) = λ e. refl

permits-same : (s : Settings) (j k : Site) (x : Kind) → T (eq_site j k) → permits s j x ≡ permits s k x
unfolding permits eq_site
permits-same s (tag_of p) (tag_of q) x t = refl
permits-same s (tag_of p) (content_of q) x t = absurd t
permits-same s (content_of p) (tag_of q) x t = absurd t
permits-same s (content_of p) (content_of q) x t = refl
permits-same s (tag_of p) fragment x t = absurd t
permits-same s (content_of p) fragment x t = absurd t
permits-same s fragment (tag_of q) x t = absurd t
permits-same s fragment (content_of q) x t = absurd t
permits-same s fragment fragment x t = refl

-- What an event teaches fits only events that the shape allows.
pub learned-ok-after : (s : Settings) (ls : List Learned) (st : State) (x : Code) (e : Event Text)
    (n : Option (QName Placed)) → T (allowed s st e) → LearnedOk s ls
    → LearnedOk s (learn (site_of st) (taught (learned_at (site_of st) ls) x (kind_of e) n) ls)
unfolding LearnedOk learn learned_at learned_in one_fits
learned-ok-after s ls st x e n t ok st' f u =
    go (site_of st) (site-decides s st) (taught (learned_at (site_of st) ls) x (kind_of e) n)
    (taught-kind (learned_at (site_of st) ls) x (kind_of e) n) (site_of st') (site-decides s st') (ok st' f) u
  where
    go : (a : Option Site) → If-some (Decides s st) a → (o : Option Production)
        → If-some (λ p. p.kind ≡ kind_of e) o → (b : Option Site) → If-some (Decides s st') b
        → (T (one_fits (learned_at b ls) f (allowed s st' f)) → T (allowed s st' f))
        → T (one_fits (learned_at b (learn a o ls)) f (allowed s st' f)) → T (allowed s st' f)
    go none h o i b m ok u = ok u
    go (some k) h none i b m ok u = ok u
    go (some k) h (some p) i none m ok u = ok u
    go (some k) h (some p) i (some j) m ok u =
        split (eq_site j k)
        (λ c. split (fits p f)
        (λ g. let same : kind_of f ≡ kind_of e = sym (fits-kind p f (is_t (fits p f) g)) ∙ i in
        rw (m f, same, permits-same s j k (kind_of e) (is_t (eq_site j k) c), ← h e) t)
        (λ g. ok (rw (c, g) at u)))
        (λ c. ok (rw c at u))
