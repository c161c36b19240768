-- The numbers after an event.
use Prim.Native.Nat.{ℕ, ◌+◌, ◌-◌, ◌≤◌, ◌<◌}
use native.Mathlib.Omega.{arith}
use mathlib.Core.Path.{◌≡◌, ap}
use mathlib.Core.Bool.{Bool, true}
use mathlib.Core.List.{List}
use lib.Dec.{eqb}
use Rattle.spec_fields.proofs.Tests.{split}
use Rattle.spec_exi.specs.Sizes.{max_uris, max_names, max_learned, max_grammars, max_open}
use Rattle.spec_exi.specs.Sizes.{max_store, max_events}
use Rattle.spec_exi.specs.Event.{AT}
use Rattle.spec_exi.specs.Grammar.{kind_number}
use Rattle.mem_layout.specs.Layout.{name_rows}
use Rattle.mem_state.specs.declared.Core.{Core}
use Rattle.mem_state.specs.Holds.{Bounded}
use Rattle.mem_state.specs.declared.Strings.{Strings}
use Rattle.mem_state.specs.declared.Growth.{Growth}
use Rattle.mem_state.specs.Commit.{turned, counted, tag_number, StringsPre, CountPre}
use Rattle.mem_state.specs.Commit.{TurnPre}
use Rattle.grammar_open.proofs.Turns.{mode-fits, raise, depth-few, top-low}
use Rattle.grammar_update.specs.Growth.{fits_in}
use Rattle.grammar_update.specs.After.{moved_to, core_after, AfterPre}
use Rattle.grammar_update.proofs.Tests.{fits-open, fits-grammars, fits-learned}

-- The mark is at most one more than the events that there can be.
tag-few : (kind n tag : ℕ) → n < max_events → tag ≤ max_events + 1
    → tag_number kind n tag ≤ max_events + 1
unfolding tag_number
tag-few kind n tag l h =
    split (eqb kind (kind_number AT)) (λ e. rw e h) (λ e. rw e (omega arith))

-- After an event the mark is at most one more than the events that have come.
pub after-late : (f : Bool) (c : Core) (at stored : ℕ) (s : Strings) (g : Growth) (n : ℕ)
    → c.tag ≤ n + 1 → (core_after f c at stored s g n).tag ≤ n + 2
unfolding turned counted tag_number
after-late f c at stored s g n h =
    split (eqb g.kind (kind_number AT)) (λ e. rw e (omega arith)) (λ e. rw e (omega arith))

pub after-bounded : (f : Bool) {work : List ℕ} {c : Core} {s : Strings} {g : Growth} {n : ℕ}
    (at stored : ℕ)
    → AfterPre c g n → StringsPre work c s → fits_in c g ≡ true → g.name < name_rows
    → c.stored ≤ stored → stored ≤ max_store → (s.new_value ≡ true → c.values < stored)
    → Bounded (core_after f c at stored s g n)
unfolding turned counted max_uris max_names
after-bounded f {c = c} {s} {g} {n} at stored a p fits low more h joins =
    let b = a.bounded in
    record {
      stored = h;
      uris = raise s.new_uri c.uris max_uris b.uris (λ j. omega (arith, p.uris j));
      names = raise s.new_name c.names max_names b.names (λ j. omega (arith, p.names j));
      values = raise s.new_value c.values stored (omega (arith, b.values)) joins;
      learned = raise g.teaches c.learned max_learned b.learned (fits-learned c g fits);
      grammars = raise g.enters c.grammars max_grammars b.grammars (fits-grammars c g fits);
      top = top-low g.kind g.name c.top low b.top;
      depth = depth-few g.kind c.depth b.depth (fits-open c g fits);
      fits = mode-fits f g.kind a.stands b.fits;
      tag = tag-few g.kind n c.tag a.early b.tag;
      capacity = b.capacity;
    }

-- ---- `after`

pub count-asks : {c : Core} {g : Growth} {n : ℕ} (at stored : ℕ) → AfterPre c g n
    → CountPre (moved_to c at stored)
unfolding max_uris max_names max_store max_learned max_grammars
count-asks at stored p =
    let b = p.bounded in
    record {
      uris = omega (arith, b.uris);
      names = omega (arith, b.names);
      values = omega (arith, b.values, b.stored);
      learned = omega (arith, b.learned);
      grammars = omega (arith, b.grammars);
    }

pub turn-asks : {c d : Core} {g : Growth} {n : ℕ} (at stored : ℕ) (s : Strings) → AfterPre c g n
    → d ≡ counted (moved_to c at stored) s g → TurnPre d g.kind n
unfolding counted kind_number max_open max_events
turn-asks {c} {d} at stored s p e =
    let m : d.depth ≡ c.depth = ap (λ (k : Core). k.depth) e in
    record {
      few = omega (arith, p.bounded.depth);
      early = omega (arith, p.early);
      some = λ k.
          let h = p.bounded.fits.inner (p.stands.inside (omega (arith, k)) (omega (arith, k))) in
          omega (arith, h);
    }
