-- The functions that add rows and raise counts, step by step.
use Prim.Native.Nat.{ℕ}
use native.Mathlib.Omega.{arith}
use mathlib.Core.Path.{◌≡◌, refl, sym, ap, ◌∙◌}
use mathlib.Core.Bool.{Bool, true, false, not}
use mathlib.Core.List.{List}
use lib.ListN.{length, length-set}
use lib.Dec.{eqb}
use borrow.Author.Tests.{eq-eqb, ne_eqb}
use Rattle.spec_fields.proofs.Tests.{split}
use Rattle.mem_names.specs.Uris.{with_uri}
use Rattle.mem_names.specs.Names.{with_name}
use Rattle.mem_marks.specs.Marks.{with_mark}
use Rattle.mem_marks.proofs.Marks.{mark-length}
use Rattle.mem_values.specs.Values.{with_value}
use Rattle.mem_learned.specs.Learned.{site_index, name_index, name_code, with_rows, with_learned}
use Rattle.mem_layout.specs.Layout.{learned_counts}
use Rattle.mem_index.proofs.More.{entered-length, joined_length}
use Rattle.mem_learned.specs.Grammars.{with_grammar_of}
use Rattle.mem_names.proofs.Uris.{uri-length}
use Rattle.mem_names.proofs.Joined as names
use Rattle.mem_values.specs.Hold.{AddRowPre}
use Rattle.mem_values.proofs.Joined as values
use Rattle.mem_learned.proofs.Grammars.{grammar-length}
use Rattle.spec_exi.specs.Event.{AT}
use Rattle.spec_exi.specs.Grammar.{kind_number}
use Rattle.mem_state.specs.declared.Core.{Core}
use Rattle.mem_state.specs.declared.Strings.{Strings}
use Rattle.mem_state.specs.declared.Growth.{Growth}
use Rattle.mem_state.specs.Joining.{Joining, uri_joining, name_joining, value_joining}
use Rattle.mem_state.specs.Commit.{joined_uri, joined_name, joined_value, joined_strings, entered}
use Rattle.mem_state.specs.Commit.{learnt, marked, grown, ValuePre, NamePre, StringsPre}
use Rattle.mem_state.specs.Commit.{EnterPre, LearnPre, GrowPre}

-- Tests of a negation.
off : (b : Bool) → not b ≡ true → b ≡ false
off true e = sym e
off false e = refl

pub on : (b : Bool) → not b ≡ false → b ≡ true
on true e = refl
on false e = sym e

pub value-adds : {work : List ℕ} {n owner : ℕ} {x : Joining} → ValuePre work n owner x
    → not x.joins ≡ false → AddRowPre work n owner
value-adds p j = record { room = p.room; few = omega (arith, p.few (on _ j)); low = p.low }

-- ---- a row that joins, or does not

module _ (n : ℕ) (x : Joining) (work : List ℕ) where
  pub uri-not : not x.joins ≡ true → work ≡ joined_uri n x work
  unfolding joined_uri
  uri-not e = rw (off x.joins e)

  pub uri-joins : {after : List ℕ} → not x.joins ≡ false → after ≡ with_uri work n x.place x.size n
      → after ≡ joined_uri n x work
  unfolding joined_uri
  uri-joins e h = rw (on x.joins e) h

  module _ (k : ℕ) where
    pub name-not : not x.joins ≡ true → work ≡ joined_name n k x work
    unfolding joined_name
    name-not e = rw (off x.joins e)

    pub name-joins : {after : List ℕ} → not x.joins ≡ false
        → after ≡ with_name work n k x.place x.size x.hash → after ≡ joined_name n k x work
    unfolding joined_name
    name-joins e h = rw (on x.joins e) h

    pub value_not : not x.joins ≡ true → work ≡ joined_value n k x work
    unfolding joined_value
    value_not e = rw (off x.joins e)

    pub value-joins : {after : List ℕ} → not x.joins ≡ false
        → after ≡ with_value work n k x.place x.size x.hash → after ≡ joined_value n k x work
    unfolding joined_value
    value-joins e h = rw (on x.joins e) h

module _ (b : Bool) (k : ℕ) (work : List ℕ) where
  pub enter-not : not b ≡ true → work ≡ entered b k work
  unfolding entered
  enter-not e = rw (off b e)

  pub enter-joins : {after : List ℕ} → not b ≡ false → after ≡ with_grammar_of work k
      → after ≡ entered b k work
  unfolding entered
  enter-joins e h = rw (on b e) h

module _ (n : ℕ) (g : Growth) (work : List ℕ) where
  pub learn-not : not g.teaches ≡ true → work ≡ learnt n g work
  unfolding learnt
  learn-not e = rw (off g.teaches e)

  pub learn-joins : {after : List ℕ} → not g.teaches ≡ false
      → after ≡ with_learned work n g.site g.kind g.name g.uri g.name
      → after ≡ learnt n g work
  unfolding learnt
  learn-joins e h = rw (on g.teaches e) h

module _ (tag kind name : ℕ) (work : List ℕ) where
  pub mark-not : (kind ≡ kind_number AT → ⊥) → work ≡ marked tag kind name work
  unfolding marked
  mark-not e = rw (ne_eqb kind (kind_number AT) e)

  pub mark-joins : {after : List ℕ} → kind ≡ kind_number AT → after ≡ with_mark work tag name
      → after ≡ marked tag kind name work
  unfolding marked
  mark-joins e h = rw (eq-eqb kind (kind_number AT) e) h

-- ---- lengths

uri-size : (n : ℕ) (x : Joining) (work : List ℕ) → length (joined_uri n x work) ≡ length work
unfolding joined_uri
uri-size n x work =
    split x.joins (λ e. rw e (uri-length work n x.place x.size n)) (λ e. rw e)

name-size : (n uri : ℕ) (x : Joining) (work : List ℕ)
    → length (joined_name n uri x work) ≡ length work
unfolding joined_name
name-size n uri x work =
    split x.joins
    (λ e. rw e (names.added-length work n uri x.place x.size x.hash))
    (λ e. rw e)

enter-size : (b : Bool) (k : ℕ) (work : List ℕ) → length (entered b k work) ≡ length work
unfolding entered
enter-size true k work = grammar-length work k
enter-size false k work = refl

rows-size : (work : List ℕ) (n u k : ℕ) → length (with_rows work n u k) ≡ length work
unfolding with_rows
rows-size work n u k = simp length-set

learn-size : (n : ℕ) (g : Growth) (work : List ℕ) → length (learnt n g work) ≡ length work
unfolding learnt with_learned
learn-size n g work =
    split g.teaches
    (λ e.
    rw e (joined_length _ site_index learned_counts n g.site
    ∙ entered-length _ name_index n (name_code g.site g.kind g.name)
    ∙ rows-size work n g.uri g.name))
    (λ e. rw e)

mark-size : (tag kind name : ℕ) (work : List ℕ)
    → length (marked tag kind name work) ≡ length work
unfolding marked
mark-size tag kind name work =
    split (eqb kind (kind_number AT)) (λ e. rw e (mark-length work tag name)) (λ e. rw e)

-- ---- `join_strings`

module _ {work a : List ℕ} {c : Core} {s : Strings} (p : StringsPre work c s)
    (ua : a ≡ joined_uri c.uris (uri_joining s) work) where
  pub names-asks : NamePre a c.names s.uri_row (name_joining s)
  names-asks =
      record {
        room = omega (arith, ap length ua, uri-size c.uris (uri_joining s) work, p.room);
        few = p.names;
        low = p.uri;
      }

  module _ {b : List ℕ} (ub : b ≡ joined_name c.names s.uri_row (name_joining s) a) where
    pub values-asks : ValuePre b c.values s.owner (value_joining s)
    values-asks =
        record {
          room = omega (
            arith,
            ap length ub,
            name-size c.names s.uri_row (name_joining s) a,
            names-asks.room,
          );
          few = p.values;
          low = p.owner;
        }

    pub join-steps : {d : List ℕ} → d ≡ joined_value c.values s.owner (value_joining s) b
        → d ≡ joined_strings c s work
    unfolding joined_strings
    join-steps ud =
        ud
        ∙ ap (joined_value c.values s.owner (value_joining s))
        (ub ∙ ap (joined_name c.names s.uri_row (name_joining s)) ua)

-- ---- `grow`

module _ {work a : List ℕ} {c : Core} {g : Growth} (p : GrowPre work c g)
    (ua : a ≡ entered g.enters g.name work) where
  pub learn-asks : LearnPre a c.learned g
  learn-asks =
      record {
        room = omega (arith, ap length ua, enter-size g.enters g.name work, p.room);
        few = p.few;
        site = p.site;
        kind = p.kind;
        name = p.name;
      }

  module _ {b : List ℕ} (ub : b ≡ learnt c.learned g a) where
    pub mark-asks : EnterPre b g.name
    mark-asks =
        record {
          room = omega (arith, ap length ub, learn-size c.learned g a, learn-asks.room);
          low = p.name;
        }

    pub grow-steps : {d : List ℕ} → d ≡ marked c.tag g.kind g.name b → d ≡ grown c g work
    unfolding grown
    grow-steps ud =
        ud ∙ ap (marked c.tag g.kind g.name) (ub ∙ ap (learnt c.learned g) ua)

-- ---- lengths of the whole

value-size : (n k : ℕ) (x : Joining) (work : List ℕ)
    → length (joined_value n k x work) ≡ length work
unfolding joined_value
value-size n k x work =
    split x.joins
    (λ e. rw e (values.added-length work n k x.place x.size x.hash))
    (λ e. rw e)

pub strings-size : (c : Core) (s : Strings) (work : List ℕ)
    → length (joined_strings c s work) ≡ length work
unfolding joined_strings
strings-size c s work =
    value-size c.values s.owner (value_joining s) _
    ∙ name-size c.names s.uri_row (name_joining s) _ ∙ uri-size c.uris (uri_joining s) work

pub grown-size : (c : Core) (g : Growth) (work : List ℕ) → length (grown c g work) ≡ length work
unfolding grown
grown-size c g work =
    mark-size c.tag g.kind g.name _ ∙ learn-size c.learned g _
    ∙ enter-size g.enters g.name work
