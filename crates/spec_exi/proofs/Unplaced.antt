-- Definitions of tables, grammars and contexts without places (specs/Alike): each says of them what it
-- says of those with places, or gives the same without places.
use Prim.Native.Nat.{ℕ, zero, suc, ◌-◌}
use mathlib.Core.Path.{◌≡◌, refl, ap, ◌∙◌}
use mathlib.Core.Bool.{Bool, true, false, cond}
use mathlib.Core.List.{List, [], ◌∷◌, ◌++◌, map, map-append}
use mathlib.Core.Option
use mathlib.Core.Option.{Option, none, some}
use lib.ListN.{length, get_or, replicate, take, drop, length-map, length-replicate, length-append}
use lib.ListN.{get_or-map}
use Rattle.spec_fields.specs.Field.{Alignment}
use Rattle.spec_fields.proofs.Tests.{split}
use Rattle.text.specs.Text.{Text, eq_text, is_empty}
use Rattle.spec_exi.specs.Event.{QName, Event, start_document, end_document, end_element}
use Rattle.spec_exi.specs.Event.{start_element, attribute, characters, comment, instruction}
use Rattle.spec_exi.specs.Event.{Kind, SD, ED, SE, AT, EE, CH, CM, PI, kind_of, name_of}
use Rattle.spec_exi.specs.Event.{map_name, eq_name}
use Rattle.spec_exi.specs.Sizes.{Sizes}
use Rattle.spec_exi.specs.Settings.{Settings}
use Rattle.spec_exi.specs.Tables.{Placed, name_text, Entry, Tables, Slot, partition, names_of}
use Rattle.spec_exi.specs.Tables.{values_of, all_values, has_text, index_of, Role, uri, local}
use Rattle.spec_exi.specs.Tables.{value, target, comment_text, instruction_text, plain}
use Rattle.spec_exi.specs.Tables.{Partitions, compact, literals, Values, replaced, global_id}
use Rattle.spec_exi.specs.Tables.{gone, present_values, slot_after, local_slots, by_number, joins}
use Rattle.spec_exi.specs.Tables.{with_values}
use Rattle.spec_exi.specs.Tables.{partitions_of, Form, hit, literal, first_hit, form_of}
use Rattle.spec_exi.specs.Tables.{form_bits, new_uri, new_name, new_entry, new_value, laid, added}
use Rattle.spec_exi.specs.Grammar.{Production, unnamed, is_wildcard, fits_name, fits, State}
use Rattle.spec_exi.specs.Grammar.{document, doc_content, doc_end, finished, start_tag}
use Rattle.spec_exi.specs.Grammar.{fragment_content}
use Rattle.spec_exi.specs.Grammar.{element_content, Site, eq_site, site_of, Learned, learned_in}
use Rattle.spec_exi.specs.Grammar.{learned_at, kept, levels_with, levels, all_empty, choices}
use Rattle.spec_exi.specs.Grammar.{Code, at_level, below, code_bits, raised, first_fit, code_or}
use Rattle.spec_exi.specs.Grammar.{code_of, has_kind, teaches, taught, learn}
use Rattle.spec_exi.specs.Context.{Context, levels_in, items, name_items, after}
use Rattle.spec_exi.specs.Lists.{within_tables, within_grammars}
use Rattle.spec_exi.specs.Alike.{unplaced, unplaced_entry, unplaced_values, unplaced_tables}
use Rattle.spec_exi.specs.Alike.{unplaced_name}
use Rattle.spec_exi.specs.Alike.{unplaced_production, unplaced_learned, unplaced_code}
use Rattle.spec_exi.specs.Alike.{unplaced_context}

-- ---- a string's form, by tables without places

unplaced_slot : Slot → Slot
unplaced_slot = Option.map unplaced

-- The partitions with every place 0.
pub unplaced_partitions : Partitions → Partitions
unplaced_partitions (compact es) = compact (map unplaced_slot es)
unplaced_partitions (literals ess) = literals (map (map unplaced_slot) ess)

module _ {K : Type 0} (has : K → Bool) where
  part-unplaced : (es : List (Entry K)) → partition has (map unplaced_entry es) ≡ map unplaced (partition has es)
  unfolding partition unplaced_entry
  part-unplaced [] = refl
  part-unplaced (e ∷ es) =
      split (has e.key)
      (λ t. rw t (ap (λ l. unplaced e.string ∷ l) (part-unplaced es)))
      (λ t. rw t (part-unplaced es))

slots-unplaced : (l : List Placed) → ◌≡◌ {A = List Slot} (map some (map unplaced l)) (map unplaced_slot (map some l))
unfolding unplaced_slot
slots-unplaced [] = refl
slots-unplaced (x ∷ l) = ap (λ m. some (unplaced x) ∷ m) (slots-unplaced l)

all-unplaced : {K : Type 0} (es : List (Entry K))
    → ◌≡◌ {A = List Slot} (map (λ (x : Entry K). some x.string) (map unplaced_entry es))
    (map unplaced_slot (map (λ (x : Entry K). some x.string) es))
unfolding unplaced_slot unplaced_entry
all-unplaced [] = refl
all-unplaced (e ∷ es) = ap (λ m. some (unplaced e.string) ∷ m) (all-unplaced es)

local-unplaced : (g : ℕ) (q : QName Text) (es : List (Entry (QName Text)))
    → local_slots g q (map unplaced_entry es) ≡ map unplaced_slot (local_slots g q es)
unfolding local_slots slot_after unplaced_slot unplaced_entry
local-unplaced g q [] = refl
local-unplaced zero q (e ∷ es) =
    split (eq_name q e.key)
    (λ t. rw t (ap (λ l. some (unplaced e.string) ∷ l) (local-unplaced (0 - 1) q es)))
    (λ t. rw t (local-unplaced (0 - 1) q es))
local-unplaced (suc g) q (e ∷ es) =
    split (eq_name q e.key)
    (λ t. rw t (ap (λ l. none ∷ l) (local-unplaced (suc g - 1) q es)))
    (λ t. rw t (local-unplaced (suc g - 1) q es))

module _ {A B : Type 0} (f : A → B) where
  -- Taking and mapping exchange.
  pub map-take : (n : ℕ) (l : List A) → take n (map f l) ≡ map f (take n l)
  map-take zero l = refl
  map-take (suc n) [] = refl
  map-take (suc n) (x ∷ l) = ap (λ m. f x ∷ m) (map-take n l)

  -- So do dropping and mapping.
  pub map-drop : (n : ℕ) (l : List A) → drop n (map f l) ≡ map f (drop n l)
  map-drop zero l = refl
  map-drop (suc n) [] = refl
  map-drop (suc n) (x ∷ l) = map-drop n l

-- Numbers go by the count alone.
number-unplaced : {K : Type 0} (n : ℕ) (es : List (Entry K))
    → by_number n (map unplaced_entry es) ≡ map unplaced_entry (by_number n es)
unfolding by_number
number-unplaced n es =
    rw (
      length-map es unplaced_entry,
      map-append unplaced_entry (drop (length es - n) es) (take (length es - n) es),
      map-drop unplaced_entry (length es - n) es,
      map-take unplaced_entry (length es - n) es,
    )

gone-unplaced : (v : Values) → gone (unplaced_values v) ≡ gone v
unfolding gone unplaced_values
gone-unplaced v = ap (replaced v.capacity) (length-map v.added unplaced_entry)

-- The partitions of a role.
pub partitions-unplaced : (t : Tables) (r : Role)
    → partitions_of (unplaced_tables t) r ≡ unplaced_partitions (partitions_of t r)
unfolding partitions_of names_of values_of all_values present_values unplaced_tables unplaced_partitions local_slots by_number
    unplaced_values gone unplaced_slot
partitions-unplaced t uri = ap compact (slots-unplaced t.uris)
partitions-unplaced t (local attr u) =
    ap (λ l. literals (l ∷ [])) (ap (map some) (part-unplaced (eq_text u) t.names) ∙ slots-unplaced (names_of t u))
partitions-unplaced t (value q) =
    let v = t.values in
    let n = global_id v.capacity (length v.added) in
    rw (gone-unplaced v, length-map v.added unplaced_entry)
    (cc (
      local-unplaced (gone v) q v.added,
      map-drop unplaced_entry (gone v) v.added,
      number-unplaced n (drop (gone v) v.added),
      all-unplaced (by_number n (drop (gone v) v.added)),
    ))
partitions-unplaced t target = refl
partitions-unplaced t comment_text = refl
partitions-unplaced t instruction_text = refl
partitions-unplaced t plain = refl

index-unplaced : (es : List Slot) (x : Text) → index_of (map unplaced_slot es) x ≡ index_of es x
unfolding index_of has_text unplaced_slot unplaced
index-unplaced [] x = refl
index-unplaced (none ∷ es) x = ap (Option.map suc) (index-unplaced es x)
index-unplaced (some e ∷ es) x = ap (λ o. cond (eq_text e.text x) (some 0) (Option.map suc o)) (index-unplaced es x)

first-unplaced : (j : ℕ) (ess : List (List Slot)) (x : Text)
    → first_hit j (map (map unplaced_slot) ess) x ≡ first_hit j ess x
unfolding first_hit
first-unplaced j [] x = refl
first-unplaced j (es ∷ ess) x = cc (index-unplaced es x, first-unplaced (suc j) ess x)

-- The form of a text.
pub form-unplaced : (ps : Partitions) (x : Text) → form_of (unplaced_partitions ps) x ≡ form_of ps x
unfolding form_of unplaced_partitions
form-unplaced (compact es) x = first-unplaced 0 (es ∷ []) x
form-unplaced (literals ess) x = first-unplaced 0 ess x

-- Its bits.
pub bits-unplaced : (a : Alignment) (ps : Partitions) (f : Form) (x : Text)
    → form_bits a (unplaced_partitions ps) f x ≡ form_bits a ps f x
unfolding form_bits unplaced_partitions
bits-unplaced a (compact es) (hit j i) x = rw (length-map es unplaced_slot)
bits-unplaced a (compact es) literal x = rw (length-map es unplaced_slot)
bits-unplaced a (literals ess) (hit j i) x =
    rw (get_or-map (map unplaced_slot) ess j [], length-map (get_or ess j []) unplaced_slot)
bits-unplaced a (literals ess) literal x = rw (length-map ess (map unplaced_slot))

-- ---- tables

-- The store's length.
pub store-unplaced : (t : Tables) → length (unplaced_tables t).store ≡ length t.store
unfolding unplaced_tables
store-unplaced t = length-replicate (length t.store) 0

-- Whether the tables pass a size.
pub within-unplaced : (z : Sizes) (t : Tables) → within_tables z (unplaced_tables t) ≡ within_tables z t
unfolding within_tables unplaced_tables unplaced_values gone
within-unplaced z t =
    rw (
      length-map t.uris unplaced,
      length-map t.names unplaced_entry,
      length-map t.values.added unplaced_entry,
      store-unplaced t,
    )

-- What joins a table is the same but for its place, wherever it is laid.
join : {A : Type 0} (f : A → A) → ((x : A) → f (f x) ≡ f x) → (l m n : List A) → map f m ≡ map f n
    → map f (map f l ++ m) ≡ map f (l ++ n)
join f e [] m n h = h
join f e (x ∷ l) m n h = cc (e x, join f e l m n h)

module _ (u v : Placed) (e : u.text ≡ v.text) where
  new-uri : (r : Role) → map unplaced (new_uri r u) ≡ map unplaced (new_uri r v)
  unfolding new_uri unplaced
  new-uri uri = cc
  new-uri (local attr w) = refl
  new-uri (value n) = refl
  new-uri target = refl
  new-uri comment_text = refl
  new-uri instruction_text = refl
  new-uri plain = refl

  new-name : (r : Role) → map unplaced_entry (new_name r u) ≡ map unplaced_entry (new_name r v)
  unfolding new_name unplaced_entry unplaced
  new-name uri = refl
  new-name (local attr w) = cc
  new-name (value n) = refl
  new-name target = refl
  new-name comment_text = refl
  new-name instruction_text = refl
  new-name plain = refl

  new-value : (a b : Values) → ((x : Text) → joins a x ≡ joins b x) → (r : Role)
      → map unplaced_entry (new_value a r u) ≡ map unplaced_entry (new_value b r v)
  unfolding new_value new_entry unplaced_entry unplaced
  new-value a b j uri = refl
  new-value a b j (local attr w) = refl
  new-value a b j (value n) = split (joins b v.text) (λ h. rw (e, j v.text, h)) (λ h. rw (e, j v.text, h))
  new-value a b j target = refl
  new-value a b j comment_text = refl
  new-value a b j instruction_text = refl
  new-value a b j plain = refl

-- What a literal leaves.
pub added-unplaced : (r : Role) (x : Text) (t : Tables)
    → unplaced_tables (added (unplaced_tables t) r x) ≡ unplaced_tables (added t r x)
unfolding added with_values laid unplaced_tables unplaced_values unplaced_entry unplaced joins
added-unplaced r x t =
    let u = laid (unplaced_tables t) x in
    let v = laid t x in
    λ i. record {
      uris = join unplaced (λ e. refl) t.uris (new_uri r u) (new_uri r v) (new-uri u v refl r) i;
      names = join unplaced_entry (λ e. refl) t.names (new_name r u) (new_name r v) (new-name u v refl r) i;
      values = record {
        longest = t.values.longest;
        capacity = t.values.capacity;
        added = join unplaced_entry (λ e. refl) t.values.added (new_value (unplaced_values t.values) r u)
            (new_value t.values r v) (new-value u v refl (unplaced_values t.values) t.values (λ y. refl) r) i;
      };
      store = replicate (longer i) 0;
    }
  where
    longer : length (replicate (length t.store) 0 ++ x) ≡ length (t.store ++ x)
    longer = simp (length-append, length-replicate)

-- ---- event codes, by what is learned without places

-- The levels with every place 0.
pub unplaced_levels : List (List Production) → List (List Production)
unplaced_levels = map (map unplaced_production)

learned-in-unplaced : (k : Site) (ls : List Learned)
    → learned_in k (map unplaced_learned ls) ≡ map unplaced_production (learned_in k ls)
unfolding learned_in unplaced_learned
learned-in-unplaced k [] = refl
learned-in-unplaced k (l ∷ ls) =
    split (eq_site k l.site)
    (λ t. rw t (ap (λ m. unplaced_production l.production ∷ m) (learned-in-unplaced k ls)))
    (λ t. rw t (learned-in-unplaced k ls))

learned-at-unplaced : (k : Option Site) (ls : List Learned)
    → learned_at k (map unplaced_learned ls) ≡ map unplaced_production (learned_at k ls)
unfolding learned_at
learned-at-unplaced none ls = refl
learned-at-unplaced (some k) ls = learned-in-unplaced k ls

kept-unplaced : (s : Settings) → kept s ≡ map unplaced_production (kept s)
unfolding kept unnamed unplaced_production unplaced_name
kept-unplaced s = go s.comments s.instructions
  where
    go : (b c : Bool) → (cond b (unnamed CM ∷ []) [] ++ cond c (unnamed PI ∷ []) [])
        ≡ map unplaced_production (cond b (unnamed CM ∷ []) [] ++ cond c (unnamed PI ∷ []) [])
    go true true = refl
    go true false = refl
    go false true = refl
    go false false = refl

with-unplaced : (s : Settings) (ls : List Production) (st : State)
    → levels_with s (map unplaced_production ls) st ≡ unplaced_levels (levels_with s ls st)
unfolding levels_with unplaced_levels unnamed unplaced_production unplaced_name
with-unplaced s ls document = refl
with-unplaced s ls doc_content = cc (kept-unplaced s)
with-unplaced s ls doc_end = cc (kept-unplaced s)
with-unplaced s ls fragment_content =
    cc (kept-unplaced s, map-append unplaced_production ls (unnamed SE ∷ unnamed ED ∷ []))
with-unplaced s ls finished = refl
with-unplaced s ls (start_tag q outer) = cc (kept-unplaced s)
with-unplaced s ls (element_content q outer) =
    cc (kept-unplaced s, map-append unplaced_production ls (unnamed EE ∷ []))

-- The productions of a state, level by level.
pub levels-unplaced : (s : Settings) (c : Context) → levels_in s (unplaced_context c) ≡ unplaced_levels (levels_in s c)
unfolding levels_in levels unplaced_context
levels-unplaced s c =
    let k = site_of c.state in
    rw (learned-at-unplaced k c.learned) (with-unplaced s (learned_at k c.learned) c.state)

-- Whether a production has a name.
pub wildcard-unplaced : (q : Option (QName Placed)) → is_wildcard (unplaced_name q) ≡ is_wildcard q
unfolding is_wildcard unplaced_name
wildcard-unplaced none = refl
wildcard-unplaced (some q) = refl

name-unplaced : (q : Option (QName Placed)) (n : Option (QName Text)) → fits_name (unplaced_name q) n ≡ fits_name q n
unfolding fits_name unplaced_name map_name name_text unplaced
name-unplaced none n = refl
name-unplaced (some q) none = refl
name-unplaced (some q) (some n) = refl

fits-unplaced : (p : Production) (e : Event Text) → fits (unplaced_production p) e ≡ fits p e
unfolding fits unplaced_production
fits-unplaced p e = rw (name-unplaced p.qname (name_of e))

abbrev numbered : ℕ × Production → ℕ × Production
numbered x = (x.0, unplaced_production x.1)

first-fit-unplaced : (l : List Production) (e : Event Text)
    → first_fit (map unplaced_production l) e ≡ Option.map numbered (first_fit l e)
unfolding first_fit raised
first-fit-unplaced [] e = refl
first-fit-unplaced (p ∷ ps) e =
    rw (fits-unplaced p e, first-fit-unplaced ps e) (go (fits p e) (first_fit ps e))
  where
    go : (b : Bool) (o : Option (ℕ × Production))
        → cond b (some (0, unplaced_production p)) (Option.map raised (Option.map numbered o))
        ≡ Option.map numbered (cond b (some (0, p)) (Option.map raised o))
    go true o = refl
    go false none = refl
    go false (some x) = refl

-- The code of an event.
pub code-unplaced : (ls : List (List Production)) (e : Event Text)
    → code_of (unplaced_levels ls) e ≡ Option.map unplaced_code (code_of ls e)
unfolding code_of code_or unplaced_levels unplaced_code at_level below
code-unplaced [] e = refl
code-unplaced (l ∷ ls) e =
    rw (first-fit-unplaced l e, code-unplaced ls e, length-map l unplaced_production) (go (first_fit l e) (code_of ls e))
  where
    go : (o : Option (ℕ × Production)) (x : Option Code)
        → code_or (Option.map numbered o) (Option.map (below (length l)) (Option.map unplaced_code x))
        ≡ Option.map unplaced_code (code_or o (Option.map (below (length l)) x))
    go none none = refl
    go none (some x) = refl
    go (some y) x = refl

empty-unplaced : (ls : List (List Production)) → all_empty (unplaced_levels ls) ≡ all_empty ls
unfolding all_empty unplaced_levels
empty-unplaced [] = refl
empty-unplaced ([] ∷ ls) = empty-unplaced ls
empty-unplaced ((p ∷ ps) ∷ ls) = refl

choices-unplaced : (l : List Production) (ls : List (List Production))
    → length (choices (map unplaced_production l) (unplaced_levels ls)) ≡ length (choices l ls)
unfolding choices
choices-unplaced [] ls = rw (empty-unplaced ls)
choices-unplaced (p ∷ l) ls = ap suc (choices-unplaced l ls)

-- The bits of a code.
pub code-bits-unplaced : (al : Alignment) (ls : List (List Production)) (vs : List ℕ)
    → code_bits al (unplaced_levels ls) vs ≡ code_bits al ls vs
unfolding code_bits unplaced_levels
code-bits-unplaced al [] vs = refl
code-bits-unplaced al (l ∷ ls) [] = refl
code-bits-unplaced al (l ∷ ls) (v ∷ vs) = rw (choices-unplaced l ls, code-bits-unplaced al ls vs)

-- The strings of an event's content.
pub items-unplaced : (st : State) (p : Production) (e : Event Text) → items st (unplaced_production p) e ≡ items st p e
unfolding items name_items unplaced_production
items-unplaced st p start_document = refl
items-unplaced st p end_document = refl
items-unplaced st p end_element = refl
items-unplaced st p (start_element q) = rw (wildcard-unplaced p.qname)
items-unplaced st p (attribute q v) = rw (wildcard-unplaced p.qname)
items-unplaced st p (characters v) = refl
items-unplaced st p (comment x) = refl
items-unplaced st p (instruction x y) = refl

-- ---- what an event leaves, without places

kinds-unplaced : (k : Kind) (ls : List Production) → has_kind k (map unplaced_production ls) ≡ has_kind k ls
unfolding has_kind unplaced_production
kinds-unplaced k [] = refl
kinds-unplaced k (p ∷ ps) = rw (kinds-unplaced k ps)

teaches-unplaced : (ls : List Production) (x : Code) (k : Kind)
    → teaches (map unplaced_production ls) (unplaced_code x) k ≡ teaches ls x k
unfolding teaches unplaced_code unplaced_production
teaches-unplaced ls x SD = refl
teaches-unplaced ls x ED = refl
teaches-unplaced ls x SE = wildcard-unplaced x.production.qname
teaches-unplaced ls x AT = wildcard-unplaced x.production.qname
teaches-unplaced ls x EE = rw (kinds-unplaced EE ls)
teaches-unplaced ls x CH = rw (kinds-unplaced CH ls)
teaches-unplaced ls x CM = refl
teaches-unplaced ls x PI = refl

taught-unplaced : (ls : List Production) (x : Code) (k : Kind) (q : Option (QName Placed))
    → taught (map unplaced_production ls) (unplaced_code x) k (unplaced_name q)
    ≡ Option.map unplaced_production (taught ls x k q)
unfolding taught unplaced_production
taught-unplaced ls x k q =
    rw (teaches-unplaced ls x k) (split (teaches ls x k) (λ t. rw t) (λ t. rw t))

learn-unplaced : (k : Option Site) (p : Option Production) (ls : List Learned)
    → learn k (Option.map unplaced_production p) (map unplaced_learned ls) ≡ map unplaced_learned (learn k p ls)
unfolding learn unplaced_learned
learn-unplaced none p ls = refl
learn-unplaced (some k) none ls = refl
learn-unplaced (some k) (some p) ls = refl

-- What an event leaves.
pub after-unplaced : (s : Settings) (c : Context) (x : Code) (t : Tables) (q : Option (QName Placed)) (e : Event Text)
    → after s (unplaced_context c) (unplaced_code x) (unplaced_tables t) (unplaced_name q) e
    ≡ unplaced_context (after s c x t q e)
unfolding after unplaced_context
after-unplaced s c x t q e =
    let k = site_of c.state in
    rw (
      learned-at-unplaced k c.learned,
      taught-unplaced (learned_at k c.learned) x (kind_of e) q,
      learn-unplaced k (taught (learned_at k c.learned) x (kind_of e) q) c.learned,
    )

-- Whether the grammars pass a size.
pub grammars-unplaced : (z : Sizes) (c : Context) → within_grammars z (unplaced_context c) ≡ within_grammars z c
unfolding within_grammars unplaced_context
grammars-unplaced z c = rw (length-map c.learned unplaced_learned)
