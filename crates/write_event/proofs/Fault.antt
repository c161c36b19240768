-- The number of an event's refusal, by its parts: no production that fits, a string outside the
-- store, a string that is refused, a second attribute of one name, the sizes of the grammars.
use Prim.Native.Nat.{ℕ, ◌<◌}
use mathlib.Core.Path.{◌≡◌, refl, sym, ap, ap₂, ◌∙◌}
use mathlib.Core.Bool.{Bool, true, false, cond, true≢false}
use mathlib.Core.List.{List, [], ◌∷◌, ◌++◌, append_assoc}
use mathlib.Core.Option.{none, some}
use Rattle.spec_fields.specs.Refusal.{number_of, limit, shape, place}
use Rattle.spec_fields.proofs.Tests.{split}
use Rattle.text.specs.Text.{Text, Span, inside, part}
use Rattle.spec_exi.specs.Sizes.{sizes}
use Rattle.spec_exi.specs.Event.{Event, map_event, strings_of}
use Rattle.spec_exi.specs.Settings.{Settings}
use Rattle.spec_exi.specs.Grammar.{Code, code_of, tag_allows}
use Rattle.spec_exi.specs.Context.{Context, levels_in, items, next}
use Rattle.spec_exi.specs.Lists.{every, within_grammars}
use Rattle.spec_exi.specs.Writer.{Test, first_failed, place_tests, content_tests, event_tests, fault_of}
use Rattle.write_partition.specs.Judged.{fault_number}
use Rattle.write_partition.proofs.Tests.{failed-then, failed-first, number-first, number-then}

places-inside : (store : Text) (xs : List Span) → every (inside store) xs ≡ true
    → first_failed (place_tests store xs) ≡ none
unfolding first_failed place_tests every
places-inside store [] e = refl
places-inside store (x ∷ xs) e =
    split (inside store x)
    (λ t. rw t (places-inside store xs (rw t at e)))
    (λ t. absurd (true≢false (sym (rw t at e))))

places-outside : (store : Text) (xs : List Span) → every (inside store) xs ≡ false
    → first_failed (place_tests store xs) ≡ some place
unfolding first_failed place_tests every
places-outside store [] e = absurd (true≢false e)
places-outside store (x ∷ xs) e =
    split (inside store x) (λ t. rw t (places-outside store xs (rw t at e))) (λ t. rw t)

module _ (s : Settings) (c : Context) (store : Text) (e : Event Span) where
  pub fault-shape : code_of (levels_in s c) (map_event (part store) e) ≡ none
      → number_of shape ≡ fault_number (fault_of sizes s c store e)
  unfolding fault_of event_tests first_failed fault_number
  fault-shape h = rw h

  module _ {x : Code} (is : code_of (levels_in s c) (map_event (part store) e) ≡ some x) where
    abbrev places : List Test
    places = place_tests store (strings_of e)

    abbrev content : List Test
    content =
        content_tests sizes c.tables (items c.state x.production (map_event (part store) e))

    abbrev grammars : List Test
    grammars =
        (tag_allows c.tag (map_event (part store) e), shape)
        ∷ (within_grammars sizes (next s c (map_event (part store) e)), limit) ∷ []

    coded : fault_of sizes s c store e ≡ first_failed (places ++ (content ++ grammars))
    unfolding fault_of event_tests
    coded = rw is (ap first_failed (append_assoc places content grammars))

    pub fault-place : every (inside store) (strings_of e) ≡ false
        → number_of place ≡ fault_number (fault_of sizes s c store e)
    unfolding fault_number
    fault-place h =
        rw (
          coded,
          failed-first place places (content ++ grammars)
              (places-outside store (strings_of e) h),
        )

    module _ (h : every (inside store) (strings_of e) ≡ true) {n : ℕ}
        (number : n ≡ fault_number (first_failed
        (content_tests sizes c.tables
        (items c.state x.production (map_event (part store) e)))))
      where
        after-places : fault_of sizes s c store e ≡ first_failed (content ++ grammars)
        after-places =
            coded ∙ failed-then places (content ++ grammars) (places-inside store (strings_of e) h)

        pub fault-content : 0 < n → n ≡ fault_number (fault_of sizes s c store e)
        fault-content l = number-first content grammars number l ∙ ap fault_number (sym after-places)

        -- The start tag and the sizes of the grammars are tested last.
        pub fault-grammars : n ≡ 0 → (may fits : Bool)
            → tag_allows c.tag (map_event (part store) e) ≡ may
            → within_grammars sizes (next s c (map_event (part store) e)) ≡ fits
            → cond may (cond fits 0 (number_of limit)) (number_of shape)
            ≡ fault_number (fault_of sizes s c store e)
        unfolding first_failed fault_number
        fault-grammars z may fits t w =
            last may fits
            ∙ ap₂ (λ a b. fault_number (first_failed ((a, shape) ∷ (b, limit) ∷ []))) (sym t) (sym w)
            ∙ sym (number-then content grammars number z)
            ∙ ap fault_number (sym after-places)
          where
            last : (a b : Bool) → cond a (cond b 0 (number_of limit)) (number_of shape)
                ≡ fault_number (first_failed ((a, shape) ∷ (b, limit) ∷ []))
            last true true = refl
            last true false = refl
            last false b = refl
