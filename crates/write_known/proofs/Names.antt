-- The answers of the search for a name and its learned production.
use Prim.Native.Nat.{ℕ, suc, ◌-◌}
use native.Mathlib.Omega.{arith}
use mathlib.Core.Path.{◌≡◌, refl, sym, ap, subst, ◌∙◌}
use mathlib.Core.Bool.{Bool, true, false, cond, ◌&&◌, ◌||◌, not}
use mathlib.Core.List.{List}
use lib.ListN.{length}
use lib.Dec.{eqb, ltb}
use borrow.Author.Tests.{eq-eqb, ne_eqb, not-true, not-false}
use Rattle.text.specs.Text.{Text, inside, part}
use Rattle.spec_exi.specs.Sizes.{max_string, max_uris, max_names}
use Rattle.name_rules.specs.Names.{is_reserved}
use Rattle.event.specs.declared.Part.{Part}
use Rattle.event.specs.Cells.{as_span}
use Rattle.mem_entries.specs.Texts.{hash_of}
use Rattle.mem_names.specs.Uris.{uri_store, FindUriPre, FoundUri}
use Rattle.mem_names.specs.Names.{name_store, name_found_in, FindNamePre, FoundName}
use Rattle.mem_state.specs.declared.Core.{Core}
use Rattle.grammar_match.specs.Found.{FindPre, FoundHere}
use Rattle.write_partition.specs.Judged.{found_as}
use Rattle.write_names.specs.Uris.{UriPost}
use Rattle.write_names.proofs.Uris.{uri-hit}
use Rattle.write_names.proofs.Names.{name-hit}
use Rattle.write_qname.specs.Qnames.{NamePre}
use Rattle.write_qname.proofs.Returns.{local-asks, name-judged}
use Rattle.write_known.specs.Names.{uri_found, known_in, Named, KnownName, unknown_as}
use Rattle.write_known.specs.Names.{learned_in, LearnedName}

or_right : (a b : Bool) → a || b ≡ false → b ≡ false
or_right true true e = e
or_right true false e = refl
or_right false b e = e

and_left : (a b : Bool) → a && b ≡ true → a ≡ true
and_left true b e = refl
and_left false b e = e

and_right : (a b : Bool) → a && b ≡ true → b ≡ true
and_right true b e = e
and_right false true e = refl
and_right false false e = e

pub uri-asks : {work : List ℕ} {c : Core} → NamePre work c → FindUriPre work c.uris
unfolding max_uris
uri-asks pre = record { room = pre.room; few = pre.bounded.uris }

pub name-asks : {work : List ℕ} {c : Core} → NamePre work c → {stores : ℕ → List ℕ} {y : Text} {u : ℕ}
    → FoundUri work stores y c.uris (suc u) → FindNamePre work u c.names
unfolding max_uris max_names
name-asks pre f =
    record {
      room = pre.room;
      low = omega (arith, f.within, pre.bounded.uris);
      few = pre.bounded.names;
    }

pub find-asks : {opening text : List ℕ} {attr : Bool} {uri local : Part} {c : Core} {work : List ℕ}
    {k : ℕ} → NamePre work c → KnownName opening text attr uri local c work (suc k)
    → FindPre work c.top k c.learned
unfolding max_names
find-asks pre known =
    record {
      room = pre.room;
      low = pre.bounded.top;
      name_low = omega (arith, known.few, pre.bounded.names);
      few = pre.bounded.learned;
    }

module _ (opening text : List ℕ) (attr : Bool) (uri local : Part) {c : Core} {work : List ℕ}
    (pre : NamePre work c) {y : Text}
    (look : y ≡ part text (record { place = uri.place; size = uri.size })) {u : ℕ}
    (f : FoundUri work (uri_store opening text) y c.uris u) where
  found-uri : u ≡ uri_found opening text uri c work
  unfolding as_span uri_found
  found-uri = rw (sym look) f.is

  -- No such URI.
  pub no-uri : u ≡ 0 → KnownName opening text attr uri local c work 0
  unfolding known_in
  no-uri z =
      record {
        is = rw (sym found-uri, z) refl;
        few = omega arith;
        named = λ h. absurd (omega (arith, h));
      }

  module _ {g : ℕ} (at : u ≡ suc g) {x : Text}
      (look₂ : x ≡ part text (record { place = local.place; size = local.size })) {b : Bool}
      (reserved : b ≡ is_reserved y x) where
    known_at : known_in opening text attr uri local c work
        ≡ cond (ltb max_string (length x) || (attr && b)) 0
        (name_found_in work (name_store opening text) g x (hash_of x) c.names)
    unfolding as_span known_in
    known_at =
        let e : u - 1 ≡ g = omega (arith, at) in
        rw (sym found-uri, ne_eqb u 0 (λ z. omega (arith, z, at)), e, sym look, sym look₂, sym reserved)
        refl

    -- Too long, or reserved.
    pub no_hit : ltb max_string (length x) || (attr && b) ≡ true
        → KnownName opening text attr uri local c work 0
    no_hit t =
        record {
          is = sym (known_at ∙ ap (λ d. cond d 0
              (name_found_in work (name_store opening text) g x (hash_of x) c.names)) t);
          few = omega arith;
          named = λ h. absurd (omega (arith, h));
        }

    uri-post : UriPost opening text y c.uris c.stored work (found_as g c.stored)
    uri-post =
        uri-hit opening text y
        (record { room = pre.room; few = pre.bounded.uris; store = pre.bounded.stored }) f at
        refl

    pub name-sought : ltb max_string (length x) || (attr && b) ≡ false → {h : ℕ} → h ≡ hash_of x
        → {r : ℕ} → FoundName work (name_store opening text) g x h c.names r
        → KnownName opening text attr uri local c work r
    name-sought t {h} hashed {r} q =
        record {
          is = q.is
              ∙ ap (λ m. name_found_in work (name_store opening text) g x m c.names) hashed
              ∙ sym (known_at ∙ ap (λ d. cond d 0
              (name_found_in work (name_store opening text) g x (hash_of x) c.names)) t);
          few = q.within;
          named = λ some. record {
            u = g;
            post = name-judged pre attr uri local look uri-post refl look₂
                (name-hit opening text attr y x (local-asks pre uri-post refl) hashed q
                {g = r - 1} (omega (arith, some)) reserved (or_right (ltb max_string (length x)) (attr && b) t) refl) refl;
          };
        }

-- ---- the production

module _ (opening text : List ℕ) (kind : ℕ) (uri local : Part) {c : Core} {work : List ℕ}
    (pre : NamePre work c) where
  nothing : unknown_as ≡ learned_in opening text kind uri local c work
      → LearnedName opening text kind uri local c work unknown_as
  nothing e =
      record {
        is = e;
        low = omega arith;
        within = λ h. absurd (omega (arith, h));
        named = λ h. absurd (omega (arith, h));
        found = λ h. absurd (omega (arith, h));
      }

  module _ {a b : Bool} (first : a ≡ inside text (as_span uri))
      (second : b ≡ inside text (as_span local)) where
    pub name-outside : not (a && b) ≡ true → LearnedName opening text kind uri local c work unknown_as
    unfolding learned_in
    name-outside o =
        nothing (rw (sym first, sym second, not-true (a && b) o) refl)

    module _ (i : not (a && b) ≡ false) {k : ℕ}
        (known : KnownName opening text (eqb kind 3) uri local c work k) where
      pub name-unknown : k ≡ 0 → LearnedName opening text kind uri local c work unknown_as
      unfolding learned_in
      name-unknown z =
          nothing (rw (sym first, sym second, not-false (a && b) i, sym known.is, eq-eqb k 0 z)
          refl)

      module _ {name : ℕ} (at : k ≡ suc name) where
        known-at : KnownName opening text (eqb kind 3) uri local c work (suc name)
        known-at = subst (KnownName opening text (eqb kind 3) uri local c work) at known

        before : k - 1 ≡ name
        before = omega (arith, at)

        pub name-learned : {row : ℕ} → FoundHere work c.mode c.top kind name c.learned row
            → LearnedName opening text kind uri local c work (record { name = name; row = row })
        unfolding learned_in
        name-learned f =
            record {
              is = rw (
                sym first,
                sym second,
                not-false (a && b) i,
                sym known.is,
                ne_eqb k 0 (λ z. omega (arith, z, at)),
                before,
                f.is,
              ) refl;
              low = (find-asks pre known-at).name_low;
              within = λ _. (
                sym first ∙ and_left a b (not-false (a && b) i),
                sym second ∙ and_right a b (not-false (a && b) i),
              );
              named = λ _. subst (Named opening text (eqb kind 3) uri local c work) before
                  (known.named (omega (arith, at)));
              found = λ _. f;
            }
