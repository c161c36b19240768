-- A URI by the definitions, step by step (EXI 7.3.2): its number, then an entry, or the String of a
-- miss.
use Prim.Native.Nat.{ℕ, suc, ◌-◌, ◌*◌, ◌≤◌}
use native.Mathlib.Omega.{arith}
use native.Mathlib.Nat.{le_refl, le_trans}
use mathlib.Core.Path.{◌≡◌, refl, sym, ap, ◌∙◌}
use mathlib.Core.Bool.{true, true≢false}
use mathlib.Core.List.{List, ◌∷◌, ◌++◌, map, append-nil}
use mathlib.Core.Option.{Option, none, some}
use lib.ListN.{length, drop}
use borrow.Author.Tests.{eq-eqb}
use Rattle.spec_fields.specs.Bits.{Bits, unpack}
use Rattle.spec_fields.specs.Refusal.{reference}
use Rattle.spec_fields.specs.Parser.{Parser, got, return, present, and_then, ◌>>=◌}
use Rattle.spec_fields.specs.Field.{Alignment, choice, unsigned}
use Rattle.spec_fields.proofs.Steady.{steady-unsigned, steady-choice, Steady}
use Rattle.text.specs.Text.{Text}
use Rattle.spec_exi.specs.Settings.{Settings}
use Rattle.spec_exi.specs.Sizes.{sizes, max_store}
use Rattle.spec_exi.specs.Tables.{Placed, Slot, Tables, uri, partitions_of, hit, eq_form, form_of}
use Rattle.spec_exi.specs.Tables.{tables_after, name_allowed, text_allowed}
use Rattle.spec_exi.specs.Lists.{within_tables}
use Rattle.spec_exi.specs.Reader.{read_character, read_in, read_by_literals, read_entry, read_form}
use Rattle.spec_exi.specs.Reader.{read_string}
use Rattle.mem_rows.specs.Rows.{Rows, tables_of}
use Rattle.read_contract.specs.Outcome.{Declined, Gotten, Outcome}
use Rattle.read_contract.proofs.Outcome.{declined-then, gotten-outcome}
use Rattle.read_literal.specs.Awaits.{Waits}
use Rattle.read_partition.specs.View.{StringRead}
use Rattle.read_partition.specs.Strings.{found_as, Tabled, judge, Reading, as_literal}
use Rattle.read_partition.specs.Strings.{StringPost}
use Rattle.read_partition.proofs.Literals.{nothing-laid}
use Rattle.read_partition.proofs.Steps.{Comes, comes-declined, comes-gotten, judge-got}
use Rattle.read_partition.proofs.Hits.{Chosen}
use Rattle.read_names.specs.Uris.{as_uri, as_missed}

-- What the number of a URI stands for: a miss, or an entry.
abbrev pub entries : Tables → List (Option Slot)
entries t = none ∷ map some (map some t.uris)

-- At `at` p does what p' does at q, and waits for code points as that does.
pub record Leads (s : Settings) (p : Parser (Placed × Tables)) (stream : List ℕ) (at : ℕ)
    (p' : Parser (Placed × Tables)) (q : ℕ) : Type 0 where
  pub comes : Comes p stream at p' q
  pub waits : {next n : ℕ} → Waits (read_character s) p' stream q next n
      → Waits (read_character s) p stream at next n

-- Where p goes on with p' after a field, whatever bits follow.
leads : (s : Settings) {A : Type 0} {f : Parser A} → Steady f → {stream : List ℕ} {at q : ℕ}
    (g : Gotten f stream at q) {p p' : Parser (Placed × Tables)}
    → ((bs rest : Bits) → f bs ≡ got g.value rest → p bs ≡ p' rest) → Leads s p stream at p' q
leads s steady {stream} {at} {q} g on =
    record {
      comes = record { after = g.after; is = on _ _ g.result };
      waits = λ w. record {
        after = le_trans g.after w.after;
        inside = w.inside;
        comes = record {
          onward = w.comes.onward;
          comes = λ more.
              on (drop at (unpack stream) ++ more) (drop q (unpack stream) ++ more)
              (steady.reads (drop at (unpack stream)) g.value (drop q (unpack stream)) more
              g.result)
              ∙ w.comes.comes more;
        };
      };
    }

outcome-comes : {A : Type 0} {p p' : Parser A} {stream : List ℕ} {at q : ℕ}
    → Comes p stream at p' q → {k n : ℕ} {good : A → Type 0} → Outcome p' stream q k n good
    → Outcome p stream at k n good
outcome-comes c o =
    record {
      refused = λ h. comes-declined c (o.refused h);
      read = λ z. comes-gotten c (o.read z);
      is = o.is;
    }

-- The entry with this number is read, lies at this place, and is strict.
pub record EntryRead (p : Parser (Placed × Tables)) (t : Tables) (stream : List ℕ) (at next : ℕ)
    (text : List ℕ) (i place size : ℕ) : Type 0 where
  pub chosen : Chosen t uri 0 (map some t.uris) i text place size
  pub comes : Comes p stream at (judge t uri (hit 0 i, chosen.x)) next

pub same-form : (j i : ℕ) → eq_form (hit j i) (hit j i) ≡ true
unfolding eq_form
same-form j i = rw (eq-eqb j j refl, eq-eqb i i refl)

entry-got : (t : Tables) (i : ℕ) (x : Placed)
    → form_of (partitions_of t uri) x.text ≡ hit 0 i → name_allowed uri x.text ≡ true
    → within_tables sizes t ≡ true → (bs : Bits) → judge t uri (hit 0 i, x) bs ≡ got (x, t) bs
unfolding tables_after text_allowed
entry-got t i x f n w bs =
    let e : eq_form (hit 0 i) (form_of (partitions_of t uri) x.text) ≡ true =
    rw f (same-form 0 i) in
    judge-got t uri (hit 0 i, x) refl e n w bs

abbrev entry-gotten : {p : Parser (Placed × Tables)} {t : Tables} {stream : List ℕ} {at next : ℕ}
    {text : List ℕ} {i place size : ℕ} (e : EntryRead p t stream at next text i place size)
    → within_tables sizes t ≡ true → next ≤ 8 * length stream
    → Gotten (judge t uri (hit 0 i, e.chosen.x)) stream next next
entry-gotten {t = t} {next = next} {i = i} e w l =
    record {
      value = (e.chosen.x, t);
      result = entry-got t i e.chosen.x e.chosen.strict e.chosen.allowed w _;
      after = le_refl next;
      inside = l;
    }

module _ {a : Alignment} (s : Settings) (b : s.alignment ≡ a) (t : Tables) where
  -- ---- at any bits

  entry-on : (bs rest : Bits) {v : ℕ} {e : Option Slot}
      → choice a reference (entries t) bs ≡ got (v, e) rest
      → as_uri s t bs ≡ (read_entry sizes s t v e >>= judge t uri) rest
  unfolding read_string read_form partitions_of judge ◌>>=◌ and_then
  entry-on bs rest c = rw (b, c)

  missed-on : (bs rest : Bits) → choice a reference (entries t) bs ≡ got (0, none) rest
      → as_uri s t bs ≡ as_missed s t rest
  unfolding read_entry
  missed-on bs rest c = entry-on bs rest c

  hit-on : (bs rest : Bits) (i : ℕ) (x : Placed)
      → choice a reference (entries t) bs ≡ got (suc i, some (some x)) rest
      → as_uri s t bs ≡ judge t uri (hit 0 i, x) rest
  unfolding read_entry present return ◌>>=◌ and_then
  hit-on bs rest i x c =
      entry-on bs rest c
      ∙ (let e : suc i - 1 ≡ i = omega arith in ap (λ n. judge t uri (hit 0 n, x) rest) e)

  literal-on : (bs rest : Bits) {v : ℕ} → unsigned bs ≡ got v rest
      → as_missed s t bs ≡ as_literal uri v s t rest
  unfolding read_by_literals read_in ◌>>=◌ and_then
  literal-on bs rest {v} n =
      let e : v - 0 ≡ v = omega arith in rw n (ap (λ m. as_literal uri m s t rest) e)

  -- ---- at a position of a stream

  module _ {stream : List ℕ} {at : ℕ} where
    pub uri-declined : {k : ℕ} → Declined (choice a reference (entries t)) stream at k
        → Declined (as_uri s t) stream at k
    unfolding read_string read_form partitions_of
    uri-declined d = rw b (declined-then _ (declined-then _ d))

    pub missed-declined : {k : ℕ} → Declined unsigned stream at k
        → Declined (as_missed s t) stream at k
    unfolding read_by_literals
    missed-declined d = declined-then _ (declined-then _ d)

    module _ {q : ℕ} (g : Gotten (choice a reference (entries t)) stream at q) where
      pub missed-leads : g.value ≡ (0, none) → Leads s (as_uri s t) stream at (as_missed s t) q
      missed-leads e =
          leads s (steady-choice a reference (entries t)) g
          (λ bs rest c. missed-on bs rest (c ∙ ap (λ v. got v rest) e))

      pub hit-comes : (i : ℕ) (x : Placed) → g.value ≡ (suc i, some (some x))
          → Comes (as_uri s t) stream at (judge t uri (hit 0 i, x)) q
      hit-comes i x e =
          record {
            after = g.after;
            is = hit-on _ _ i x (g.result ∙ ap (λ v. got v (drop q (unpack stream))) e);
          }

    pub literal-leads : {q : ℕ} (g : Gotten unsigned stream at q)
        → Leads s (as_missed s t) stream at (as_literal uri g.value s t) q
    literal-leads g = leads s steady-unsigned g (λ bs rest n. literal-on bs rest n)

-- ---- as a function answers it

module _ {a : Alignment} {Premise : Rows → Type 0} {join : Rows → Placed → Rows} {stream : List ℕ}
    {at : ℕ} {text : List ℕ} {stored : ℕ} where
  -- A reading that comes to another.
  pub post-leads : {read read' : Rows → Text → Reading} {q : ℕ}
      → ((s : Settings) → s.alignment ≡ a → (w : Rows) (store : Text) → Tabled text stored w store
      → Premise w
      → Leads s (read w store s (tables_of w store)) stream at
      (read' w store s (tables_of w store)) q)
      → {text' : List ℕ} {r : StringRead}
      → StringPost a Premise read' join stream q text stored text' r
      → StringPost a Premise read join stream at text stored text' r
  post-leads l p =
      record {
        inside = p.inside;
        refused = p.refused;
        laid = p.laid;
        meant = λ s b w store t h.
            outcome-comes (l s b w store t h).comes (p.meant s b w store t h);
        waits = λ y s b w store t h. (l s b w store t h).waits (p.waits y s b w store t h);
      }

  -- A URI that is a hit, and strict.
  pub post-entry : {read : Rows → Text → Reading} (i next place size row : ℕ)
      → next ≤ 8 * length stream → stored ≤ max_store
      → ((s : Settings) → s.alignment ≡ a → (w : Rows) (store : Text)
      → Tabled text stored w store → Premise w
      → EntryRead (read w store s (tables_of w store)) (tables_of w store) stream at next text i place
      size)
      → StringPost a Premise read join stream at text stored text
      (found_as next place size row stored)
  post-entry i next place size row l few h =
      record {
        inside = l;
        refused = λ z. absurd (omega arith);
        laid = λ _. nothing-laid next place size row few;
        meant = λ s b w store t p.
            let e = h s b w store t p in
            gotten-outcome refl (comes-gotten e.comes (entry-gotten e t.within l))
            (record {
              laid = nothing-laid next place size row few;
              place = e.chosen.place_is;
              size = e.chosen.size_is;
              found = e.chosen.text-is;
              old = λ _. ap (tables_of w) (sym (append-nil store));
              new = λ z. absurd (true≢false (sym z));
              valid = λ z. absurd (true≢false (sym z));
            });
        waits = λ z. absurd (omega arith);
      }
