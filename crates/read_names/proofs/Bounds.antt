-- Bounds, passed on to the functions that are called.
use Prim.Native.Nat.{ℕ, suc, ◌+◌, ◌*◌, ◌-◌, ◌≤◌}
use native.Mathlib.Omega.{arith}
use mathlib.Core.Path.{◌≡◌, sym, ◌∙◌}
use mathlib.Core.List.{List}
use lib.ListN.{length}
use Rattle.spec_fields.specs.Field.{unsigned}
use Rattle.spec_exi.specs.Sizes.{max_stream, max_uris, max_names}
use Rattle.mem_names.specs.Uris.{UriRowPre, FindUriPre}
use Rattle.mem_names.specs.Names.{NameRowPre, FindNamePre, NthNamePre}
use Rattle.read_field.specs.View.{Seen, Value, field_at, InStream, NumberPre}
use Rattle.read_contract.proofs.Outcome.{unsigned-gotten}
use Rattle.read_literal.specs.View as seen
use Rattle.read_literal.specs.Literal.{LiteralPre, LiteralRead}
use Rattle.mem_index.specs.Index.{numbers}
use Rattle.read_names.specs.Uris.{UriPre, SeekUriPre}
use Rattle.read_names.specs.Names.{NamePre, SeekNamePre}

module _ {stream : List ℕ} {at : ℕ} {text : List ℕ} {stored : ℕ}
    (fit : LiteralPre stream at text stored) where
  pub in-stream : InStream stream at
  unfolding max_stream
  in-stream = omega (arith, fit.size, fit.place)

  pub fits-at : {q : ℕ} → q ≤ 8 * length stream → LiteralPre stream q text stored
  fits-at h = record { size = fit.size; place = h; room = fit.room; few = fit.few }

  -- After a number.
  pub number_fits : {f : Seen} → f ≡ field_at unsigned stream at → {v q : ℕ} → f ≡ Value v q
      → LiteralPre stream q text stored
  number_fits answer z = fits-at (unsigned-gotten stream at fit.place (sym answer ∙ z)).inside

module _ {stream : List ℕ} {at : ℕ} {text : List ℕ} {stored : ℕ} {work : List ℕ} {uris : ℕ}
    (fit : UriPre stream at text stored work uris) where
  pub uri-choice-asks : NumberPre stream at (uris + 1) 65536
  unfolding max_stream max_uris
  uri-choice-asks = omega (arith, fit.literal, fit.few)

  pub uri-seek-asks : SeekUriPre stored work uris
  uri-seek-asks = record { store = fit.literal.few; room = fit.room; few = fit.few }

  pub uri-row-asks : {v : ℕ} → v ≤ uris → (v ≡ 0 → ⊥) → UriRowPre work (v - 1)
  unfolding max_uris
  uri-row-asks h ne = record { room = fit.room; low = omega (arith, fit.few) }

  pub uri-at-asks : {q : ℕ} → q ≤ 8 * length stream → UriPre stream q text stored work uris
  uri-at-asks h = record { literal = fits-at fit.literal h; room = fit.room; few = fit.few }

pub uri-find-asks : {stored : ℕ} {work : List ℕ} {uris : ℕ} → SeekUriPre stored work uris
    → FindUriPre work uris
unfolding max_uris
uri-find-asks fit = record { room = fit.room; few = omega (arith, fit.few) }

module _ {stream : List ℕ} {at : ℕ} {text : List ℕ} {stored : ℕ} {work : List ℕ} {names uri : ℕ}
    (fit : NamePre stream at text stored work names uri) where
  pub name-choice-asks : {among : ℕ} → among ≤ numbers → NumberPre stream at among 65536
  unfolding max_stream
  name-choice-asks h = omega (arith, fit.literal)

  pub name-count-asks : NthNamePre work uri 0
  name-count-asks = record { room = fit.room; low = fit.low; few = omega arith }

  pub name-nth-asks : NthNamePre work uri names
  unfolding max_names
  name-nth-asks = record { room = fit.room; low = fit.low; few = omega (arith, fit.few) }

  pub name-row-asks : {row : ℕ} → suc row ≤ names → NameRowPre work row
  unfolding max_names
  name-row-asks h = record { room = fit.room; low = omega (arith, fit.few) }

  pub name-seek-asks : {n : ℕ} {text' : List ℕ} {l : seen.Literal}
      → LiteralRead stream at text stored n text' l → l.number ≡ 0
      → SeekNamePre text' stored n l.hash work names uri
  name-seek-asks r z =
      record {
        is = r.hashed.is z;
        store = fit.literal.few;
        room = fit.room;
        few = fit.few;
        low = fit.low;
      }

  pub name-at-asks : {q : ℕ} → q ≤ 8 * length stream → NamePre stream q text stored work names uri
  name-at-asks h =
      record {
        literal = fits-at fit.literal h;
        room = fit.room;
        few = fit.few;
        low = fit.low;
      }

pub name-find-asks : {text : List ℕ} {stored n hash : ℕ} {work : List ℕ} {names uri : ℕ}
    → SeekNamePre text stored n hash work names uri → FindNamePre work uri names
unfolding max_names
name-find-asks fit =
    record { room = fit.room; low = fit.low; few = omega (arith, fit.few) }
