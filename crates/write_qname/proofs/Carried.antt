-- A name that a learned production carries is not written: its tests, bits and tables.
use mathlib.Core.Path.{◌≡◌, refl, sym, ◌∙◌}
use mathlib.Core.Bool.{Bool, true, false}
use mathlib.Core.List.{[]}
use Rattle.spec_fields.specs.Field.{Alignment}
use Rattle.text.specs.Text.{Text}
use Rattle.spec_exi.specs.Sizes.{sizes}
use Rattle.spec_exi.specs.Event.{QName}
use Rattle.spec_exi.specs.Tables.{Tables, uri, local}
use Rattle.spec_exi.specs.Context.{item, after_items}
use Rattle.spec_exi.specs.Strict.{items_bits}
use Rattle.spec_exi.specs.Writer.{content_tests}
use Rattle.write_partition.proofs.Strings.{hit-after, hit-unwritten, unwritten_after, unwritten-bits}
use Rattle.write_qname.specs.Qnames.{name_as, NameHits}

module _ (t : Tables) (attr : Bool) (q : QName Text) where
  carried-after : after_items t (name_as false attr q) ≡ t
  unfolding name_as after_items
  carried-after = simp unwritten_after

  pub carried-bits : (a : Alignment) → items_bits a t (name_as false attr q) ≡ []
  unfolding name_as items_bits
  carried-bits a = simp unwritten-bits

  module _ (h : NameHits t attr q) where
    hits-after : after_items t (name_as true attr q) ≡ t
    unfolding name_as after_items item
    hits-after =
        rw (
          hit-after t uri q.uri h.uri-hit.form,
          hit-after t (local attr q.uri) q.local h.local-hit.form,
        )

    hits-tests : content_tests sizes t (name_as false attr q)
        ≡ content_tests sizes t (name_as true attr q)
    unfolding name_as content_tests item
    hits-tests =
        rw (
          hit-unwritten t uri q.uri h.uri-hit.form,
          unwritten_after t uri q.uri,
          hit-unwritten t (local attr q.uri) q.local h.local-hit.form,
          hit-after t uri q.uri h.uri-hit.form,
        )

  -- Tests and tables are those of a name that is written.
  pub name-tests : (written : Bool) → (written ≡ false → NameHits t attr q)
      → content_tests sizes t (name_as written attr q) ≡ content_tests sizes t (name_as true attr q)
  name-tests true h = refl
  name-tests false h = hits-tests (h refl)

  pub name-after : (written : Bool) → (written ≡ false → NameHits t attr q)
      → after_items t (name_as written attr q) ≡ after_items t (name_as true attr q)
  name-after true h = refl
  name-after false h = carried-after ∙ sym (hits-after (h refl))
