-- The content of an event, kind by kind, over rows.
use Prim.Native.Nat.{ℕ, zero, suc, ◌*◌, ◌≤◌, ◌<◌}
use native.Mathlib.Omega.{arith}
use mathlib.Core.Path.{◌≡◌, refl, sym, ap, subst, ◌∙◌}
use mathlib.Core.Bool.{Bool, false, cond}
use mathlib.Core.List.{List}
use mathlib.Core.Option.{none}
use lib.ListN.{length, take}
use Rattle.spec_fields.specs.Parser.{Parser}
use Rattle.spec_fields.specs.Field.{Alignment, bit_packed}
use Rattle.spec_exi.specs.Settings.{Settings}
use Rattle.spec_exi.specs.Sizes.{sizes, max_store}
use Rattle.spec_exi.specs.Event.{Event}
use Rattle.spec_exi.specs.Event.{Kind, SD, ED, SE, AT, EE, CH, CM, PI}
use Rattle.spec_exi.specs.Tables.{Placed, span_of, Tables, Role, value}
use Rattle.spec_exi.specs.Grammar.{State, kind_number}
use Rattle.spec_exi.specs.Reader.{read_string, readContent}
use Rattle.event.specs.declared.Event as declared
use Rattle.event.specs.Cells.{as_span}
use Rattle.event.specs.Cells as cells
use Rattle.mem_entries.specs.Texts.{Grown, up_to}
use Rattle.mem_entries.specs.Entries.{entry_at}
use Rattle.mem_names.specs.Uris.{uri_at}
use Rattle.mem_rows.specs.Rows.{Rows, placed_at, name_at, kind_at, carried_at, with_value}
use Rattle.mem_rows.specs.Valid.{Valid}
use Rattle.mem_state.specs.declared.Core.{Core}
use Rattle.mem_state.specs.declared.Strings.{Strings}
use Rattle.mem_state.specs.Joining.{Joining, valued_strings}
use Rattle.mem_state.specs.Holds.{in_store}
use Rattle.mem_state.specs.Strung.{value_added, Lain, Joins, StringsJoin}
use Rattle.mem_state.proofs.Strung.{value-uris, value-names, value-more}
use Rattle.read_contract.specs.Outcome.{Declined, Outcome}
use Rattle.read_contract.proofs.Outcome.{refused-outcome}
use Rattle.read_contract.proofs.Outcome.{outcome-weaken}
use Rattle.read_partition.specs.View.{StringRead}
use Rattle.read_partition.specs.Strings.{Hashed, as_string}
use Rattle.read_values.specs.Values.{ValueRows, value_role, as_value, ValuePost}
use Rattle.read_values.specs.Texts.{TextPost}
use Rattle.read_production.specs.View.{ProductionRead}
use Rattle.read_qname.specs.Texts.{TextRead}
use Rattle.read_qname.specs.Qnames.{joining_of, part_of, Prepared, tables_at}
use Rattle.read_qname.proofs.Got.{Adds, StringIs, string-joins, string-text, string-is}
use Rattle.read_qname.proofs.Pair.{Few, tabled, lies_grown}
use Rattle.read_content.specs.View.{Content}
use Rattle.read_content.specs.Contents.{stopped_as}
use Rattle.read_content.specs.Contents.{ContentPre, ContentRows, ContentBounds, ContentMeans}
use Rattle.read_content.specs.Contents.{ContentPost}

-- ---- which strings have joined

module _ {text text' : List ℕ} {stored stored' : ℕ} (g : Grown text text' stored stored') where
  lain-grown : {x : Joining} {y : Placed} → Lain (up_to text stored) x y → Lain (up_to text' stored') x y
  lain-grown j = record { place = j.place; size = j.size; lies = lies_grown g j.lies }

  joins-grown : {x : Joining} {y : Placed} → Joins (up_to text stored) x y
      → Joins (up_to text' stored') x y
  joins-grown j = record { lain = lain-grown j.lain; hash = j.hash }

-- The store grows.
pub join-grown : {text text' : List ℕ} {stored stored' : ℕ} {s : Strings} {w v : Rows}
    → Grown text text' stored stored' → StringsJoin (in_store text stored) s w v
    → StringsJoin (in_store text' stored') s w v
join-grown g j =
    record {
      uri = j.uri;
      name = j.name;
      value = j.value;
      uri-joins = λ b. lain-grown g (j.uri-joins b);
      name-joins = λ b. joins-grown g (j.name-joins b);
      value-joins = λ b. joins-grown g (j.value-joins b);
      uri-valid = j.uri-valid;
      name-valid = j.name-valid;
      valid = j.valid;
      is = j.is;
    }

-- A value more.
abbrev add_value : ℕ → Bool → Rows → Placed → Rows
add_value k b w y = value_added b k w y

pub join-value : {text text' : List ℕ} {stored : ℕ} {s : Strings} {w v : Rows} {x : StringRead}
    {y : Placed × Tables} → s.new_value ≡ false → StringsJoin (in_store text stored) s w v
    → Grown text text' stored x.stored → (k : ℕ) → StringIs (add_value k) v text' x y
    → Hashed text' x
    → StringsJoin (in_store text' x.stored) (valued_strings s k (joining_of x)) w
    (value_added x.joins k v y.0)
join-value {x = x} {y = y} f j g k i h =
    value-more (join-grown g j) f k (joining_of x) y.0 (string-joins i h) i.valid

module _ (b : Bool) (k : ℕ) (w : Rows) (y : Placed) where
  pub placed_same : (n : ℕ) → placed_at (value_added b k w y) n ≡ placed_at w n
  unfolding placed_at
  placed_same n =
      λ t. record {
        uri = uri_at (value-uris w y k b t) (entry_at (value-names w y k b t) n).key;
        local = (entry_at (value-names w y k b t) n).string;
      }

-- ---- a value over rows

adds-value : (k : ℕ) → Adds (λ w x. with_value w k x) (add_value k)
unfolding value_added
adds-value k = record { yes = λ w y. refl; no = λ w y. refl }

module _ {a : Alignment} {stream : List ℕ} {at : ℕ} {text : List ℕ} {stored : ℕ} {work : List ℕ}
    {values longest capacity owner : ℕ} {text' : List ℕ} {x : StringRead}
    (room : max_store ≤ length text)
    (few : stored ≤ max_store)
    (post : ValuePost a as_value stream at text stored work values longest capacity owner text' x) where
  pub value-text : TextRead text stored text' x.number x.stored
  value-text = string-text (value_role owner) (adds-value owner) room few post

  pub value-outcome : (s : Settings) → s.alignment ≡ a → {w : Rows} → Valid w → Few w
      → ValueRows work text stored values longest capacity owner w
      → Outcome (read_string sizes s (tables_at text stored w) (value (name_at w owner))) stream at
      x.number x.next (StringIs (add_value owner) w text' x)
  value-outcome s e {w} v f r =
      outcome-weaken
      (λ _ y m. string-is (value_role owner) (adds-value owner) room few post w v y m)
      (post.meant s e w (take stored text) (tabled v f few room) r)

-- ---- strings that join no table

adds_none : Adds (λ w x. w) (λ b w y. w)
adds_none = record { yes = λ w y. refl; no = λ w y. refl }

module _ (role : Role) {stream : List ℕ} {at : ℕ} {text : List ℕ} {stored : ℕ} {text' : List ℕ}
    {r : StringRead} (room : max_store ≤ length text) (few : stored ≤ max_store)
    (post : TextPost (as_string role) stream at text stored text' r) where
  pub plain-text : TextRead text stored text' r.number r.stored
  plain-text = string-text (λ w. role) adds_none room few (post bit_packed)

  pub plain-outcome : (s : Settings) {w : Rows} → Valid w → Few w
      → Outcome (read_string sizes s (tables_at text stored w) role) stream at r.number r.next
      (StringIs (λ b w y. w) w text' r)
  plain-outcome s {w} v f =
      outcome-weaken
      (λ _ y m. string-is (λ w. role) adds_none room few (post s.alignment) w v y m)
      ((post s.alignment).meant s refl w (take stored text) (tabled v f few room) tt)

pub span-is : {text : List ℕ} {added : Bool → Rows → Placed → Rows} {w : Rows} {r : StringRead}
    {v : Placed × Tables} → StringIs added w text r v → as_span (part_of r) ≡ span_of v.0
unfolding as_span span_of
span-is i = λ t. record { place = i.place t; size = i.size t }

-- ---- by kind

module _ {stream : List ℕ} {at : ℕ} {text work : List ℕ} {c : Core} {p : ProductionRead}
    (pre : ContentPre stream at text work c p) where
  abbrev room : max_store ≤ length text
  room = pre.pair.literal.room

  -- The parser of this kind.
  abbrev parser : Settings → Rows → State → Kind → Parser (Event Placed × Tables)
  parser s w st k =
      readContent sizes s (tables_at text c.stored w) st k
      (cond p.learned (carried_at w k p.name) none)

  -- A refusal.
  pub content-refused : {a : Alignment} {text' : List ℕ} (number next left stored : ℕ)
      → 0 < number → next ≤ 8 * length stream → TextRead text c.stored text' number stored
      → (k : Kind) → kind_at p.kind ≡ k
      → ((s : Settings) → s.alignment ≡ a → (w : Rows) (st : State) → Prepared work text c w
      → ContentRows c p st w → Declined (parser s w st k) stream at number)
      → ContentPost a stream at text work c p text' (stopped_as number next left stored)
  content-refused {text' = text'} number next left stored h l t k e f =
      record {
        inside = l;
        refused = λ _. refl;
        text-read = t;
        bounds = λ z. absurd (omega arith);
        meant = λ s b w st q r.
            subst
            (λ (j : Kind). Outcome (parser s w st j) stream at number next
            (ContentMeans p.kind text' w (stopped_as number next left stored))) (sym e)
            (refused-outcome (f s b w st q r));
      }

  -- An event that is read.
  pub content-read : {a : Alignment} {text' : List ℕ} (x : Content) → x.number ≡ 0
      → x.next ≤ 8 * length stream → TextRead text c.stored text' x.number x.stored
      → ContentBounds c x.stored x.strings → (k : Kind) → kind_at p.kind ≡ k
      → ((s : Settings) → s.alignment ≡ a → (w : Rows) (st : State) → Prepared work text c w
      → ContentRows c p st w
      → Outcome (parser s w st k) stream at 0 x.next (ContentMeans p.kind text' w x))
      → ContentPost a stream at text work c p text' x
  content-read {text' = text'} x z l t b k e f =
      record {
        inside = l;
        refused = λ h. absurd (omega arith);
        text-read = t;
        bounds = λ _. b;
        meant = λ s a w st q r.
            subst
            (λ (j : Kind). Outcome (parser s w st j) stream at x.number x.next
            (ContentMeans p.kind text' w x)) (sym e)
            (subst
            (λ n. Outcome (parser s w st k) stream at n x.next (ContentMeans p.kind text' w x))
            (sym z) (f s a w st q r));
      }

-- A kind by its number.
pub kind-back : (k : Kind) → kind_at (kind_number k) ≡ k
unfolding kind_at kind_number
kind-back SD = refl
kind-back ED = refl
kind-back SE = refl
kind-back AT = refl
kind-back EE = refl
kind-back CH = refl
kind-back CM = refl
kind-back PI = refl

pub kind-is : {n : ℕ} (k : Kind) → n ≡ kind_number k → kind_at n ≡ k
kind-is k e = ap kind_at e ∙ kind-back k

pub other-kind : (n : ℕ) → (n ≡ 0 → ⊥) → (n ≡ 1 → ⊥) → (n ≡ 2 → ⊥) → (n ≡ 3 → ⊥) → (n ≡ 4 → ⊥)
    → (n ≡ 5 → ⊥) → (n ≡ 6 → ⊥) → kind_at n ≡ PI
unfolding kind_at
other-kind zero a b c d e f g = absurd (a refl)
other-kind (suc zero) a b c d e f g = absurd (b refl)
other-kind (suc (suc zero)) a b c d e f g = absurd (c refl)
other-kind (suc (suc (suc zero))) a b c d e f g = absurd (d refl)
other-kind (suc (suc (suc (suc zero)))) a b c d e f g = absurd (e refl)
other-kind (suc (suc (suc (suc (suc zero))))) a b c d e f g = absurd (f refl)
other-kind (suc (suc (suc (suc (suc (suc zero)))))) a b c d e f g = absurd (g refl)
other-kind (suc (suc (suc (suc (suc (suc (suc n))))))) a b c d e f g = refl
