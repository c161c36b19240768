-- The URI of a name, judged: what each return leaves.
use Prim.Native.Nat.{ℕ, suc, ◌+◌, ◌-◌, ◌≤◌, ◌<◌}
use native.Mathlib.Omega.{arith}
use mathlib.Core.Path.{◌≡◌, refl, sym, ap, subst, ◌∙◌}
use mathlib.Core.Bool.{Bool, true, false, true≢false}
use mathlib.Core.List.{List, [], ◌∷◌, ◌++◌, map}
use mathlib.Core.Option.{some}
use lib.ListN.{length, replicate, length-append, length-map}
use lib.Dec.{eqb, ltb}
use borrow.Author.Tests.{eqb-true, eqb-false, ltb-true, lt-ltb, le-ltb}
use Rattle.spec_fields.specs.Field.{Alignment}
use Rattle.spec_fields.specs.Refusal.{number_of, name, limit, number_limit}
use Rattle.spec_fields.proofs.Tests.{split}
use Rattle.text.specs.Text.{Text}
use Rattle.spec_exi.specs.Sizes.{sizes, max_string, max_store, max_uris}
use Rattle.spec_exi.specs.Tables.{Placed, uri, partitions_of, hit, literal, hit_or, form_of, form_bits}
use Rattle.spec_exi.specs.Tables.{added, name_allowed, text_allowed}
use Rattle.spec_exi.specs.Context.{item}
use Rattle.spec_exi.specs.Lists.{within_tables}
use Rattle.spec_exi.specs.Writer.{Test, first_failed, string_tests}
use Rattle.mem_chain.specs.Chain.{first_that}
use Rattle.mem_chain.proofs.First.{first-most}
use Rattle.mem_layout.specs.Layout.{opening_uris}
use Rattle.mem_names.specs.Uris.{uri_text, has_uri, row_of, uri_store, UrisHold, FindUriPre, FoundUri}
use Rattle.mem_names.proofs.Uris.{found-uri}
use Rattle.mem_rows.specs.Rows.{Rows, tables_of, with_uri}
use Rattle.mem_rows.specs.Valid.{Valid}
use Rattle.mem_rows.proofs.Alike.{uri-joins-alike}
use Rattle.mem_rows.proofs.Forms.{uri-form, uri-fresh}
use Rattle.mem_rows.proofs.Grown.{uri-grows}
use Rattle.mem_rows.proofs.Joins as joins
use Rattle.mem_rows.proofs.Within.{within-uri}
use Rattle.mem_state.specs.Strung.{uri_added}
use Rattle.write_partition.specs.Writable.{Written, Writable, Few, tables_in, uri_source}
use Rattle.write_partition.specs.Judged.{StringAnswer, fault_number, literal_tests, refused_as, found_as, literal_as}
use Rattle.write_partition.proofs.Tests.{number-then, number-first, passed-test}
use Rattle.write_partition.proofs.Tests.{first_passes, literal-passes}
use Rattle.write_partition.proofs.Rows.{source-store, zeros, few-within, uri-writable}
use Rattle.write_partition.proofs.Means.{refused-means, long-means, hit-means, literal-fault, literal-means}
use Rattle.write_names.specs.Uris.{NewUriPre, NewUriPost, UriPre, uri_bits, UriBounds, UriMeans, UriPost}

-- ---- a literal

abbrev left : ℕ → List Test
left uris = (ltb uris max_uris, limit) ∷ []

module _ (x : Text) (uris stored : ℕ) {fault : ℕ}
    (f : fault ≡ fault_number (first_failed (literal_tests x stored))) where
  pub uri-fault : (fault ≡ 0 → ⊥) → {r : StringAnswer} → r ≡ refused_as fault stored
      → NewUriPost x uris stored r
  uri-fault ne e =
      subst (NewUriPost x uris stored) (sym e)
      (record {
        number_is = number-first (literal_tests x stored) (left uris) f (omega arith);
        refused = λ _. refl;
        judged = λ z. absurd (ne z);
      })

  module _ (z : fault ≡ 0) where
    -- The number by the table's limit alone.
    last-test : {b : Bool} → ltb uris max_uris ≡ b → fault_number (first_failed ((b, limit) ∷ []))
        ≡ fault_number (first_failed (literal_tests x stored ++ left uris))
    last-test e =
        ap (λ b. fault_number (first_failed ((b, limit) ∷ []))) (sym e)
        ∙ sym (number-then (literal_tests x stored) (left uris) f z)

    pub uri-full : max_uris ≤ uris → {r : StringAnswer} → r ≡ refused_as number_limit stored
        → NewUriPost x uris stored r
    unfolding fault_number first_failed number_of
    uri-full h e =
        subst (NewUriPost x uris stored) (sym e)
        (record {
          number_is = last-test (le-ltb uris max_uris h);
          refused = λ _. refl;
          judged = λ y. absurd (omega (arith, y));
        })

    pub uri-joins : uris < max_uris → {r : StringAnswer} → r ≡ literal_as uris stored (length x) true 0
        → NewUriPost x uris stored r
    unfolding fault_number first_failed
    uri-joins h e =
        subst (NewUriPost x uris stored) (sym e)
        (record {
          number_is = last-test (lt-ltb uris max_uris h);
          refused = λ y. absurd (omega (arith, y));
          judged = λ _. refl;
        })

-- ---- what it means

module _ (w : Rows) (x : Text) (uris stored : ℕ) (valid : Valid w) (writable : Writable w) (few : Few w)
    (count : length w.uris ≡ uris) (low : stored ≤ max_store) (place : ℕ) where
  abbrev new : Placed
  new = record { place = place; text = x }

  entries : length (map some w.uris) ≡ uris
  entries = length-map w.uris some ∙ count

  module _ (g : ℕ) (found : suc g ≡ first_that (has_uri w.uris x) (length w.uris)) where
    found-form : form_of (partitions_of (tables_in w stored) uri) x ≡ hit 0 g
    unfolding row_of hit_or
    found-form = uri-form w x (suc g) found (replicate stored 0)

    found_inside : g < length w.uris
    found_inside = omega (arith, first-most (has_uri w.uris x) (length w.uris))

    found-text : uri_text w.uris g ≡ x
    found-text = (found-uri w.uris x g found).1

    found-bits : (a : Alignment)
        → form_bits a (partitions_of (tables_in w stored) uri) (hit 0 g) x ≡ uri_bits uris g false x a
    unfolding partitions_of form_bits uri_bits tables_of
    found-bits a = rw entries

    found-means : UriMeans w (uri_added false w new) uris stored x (found_as g stored)
    unfolding uri_added name_allowed text_allowed
    found-means =
        record {
          string = hit-means uri w stored x found-form few low
              (subst Written found-text (writable.uris g found_inside)) refl refl valid writable found-bits;
          row = λ _. found_inside;
          text = λ _. found-text;
          hit = λ _ _. record { id = g; form = found-form };
        }

  module _ (absent : 0 ≡ first_that (has_uri w.uris x) (length w.uris)) (short : length x ≤ max_string) where
    absent-form : form_of (partitions_of (tables_in w stored) uri) x ≡ literal
    unfolding row_of hit_or
    absent-form = uri-form w x 0 absent (replicate stored 0)

    absent-bits : (a : Alignment)
        → form_bits a (partitions_of (tables_in w stored) uri) literal x ≡ uri_bits uris uris true x a
    unfolding partitions_of form_bits uri_bits tables_of
    absent-bits a = rw entries

    row-left : stored + length x ≤ max_store
        → within_tables sizes (added (tables_in w stored) uri x) ≡ ltb uris max_uris
    unfolding tables_of
    row-left h =
        within-uri (tables_in w stored) x (few-within few low) (omega (arith, zeros stored))
        ∙ ap (λ m. ltb m max_uris) count

    absent-fault : {number : ℕ}
        → number ≡ fault_number (first_failed (literal_tests x stored ++ left uris))
        → number ≡ fault_number (first_failed (string_tests sizes (tables_in w stored) (item uri x)))
    unfolding name_allowed text_allowed
    absent-fault f =
        literal-fault uri w stored x absent-form short refl (ltb uris max_uris) row-left
        (f ∙ ap fault_number (sym (passed-test (literal_tests x stored) (left uris) true name refl)))

    row_more : uris < length (with_uri w new).uris
    unfolding with_uri
    row_more = omega (arith, count, length-append w.uris (new ∷ []))

    -- It joins.
    joined-means : 0 ≡ fault_number (first_failed (literal_tests x stored ++ left uris))
        → UriMeans w (uri_added true w new) uris stored x (literal_as uris stored (length x) true 0)
    unfolding uri_added
    joined-means f =
        let ok = literal-passes x stored (left uris) f refl in
        record {
          string = literal-means uri w stored x absent-form (absent-fault f) absent-bits
              (uri-joins-alike w valid.refers (replicate stored 0) new)
              (uri-grows valid new (uri-fresh w x 0 absent refl))
              (uri-writable writable new (record { short = short; chars = ok.chars }));
          row = λ _. row_more;
          text = λ _. ap (uri_text (with_uri w new).uris) (sym count)
              ∙ ap (λ (y : Placed). y.text) (joins.uri-new w new);
          hit = λ _ j. absurd (true≢false j);
        }

    absent-means : {r : StringAnswer} → NewUriPost x uris stored r
        → UriMeans w (uri_added r.joins w new) uris stored x r
    absent-means {r} n =
        split (eqb r.number 0)
        (λ e.
        let z : r.number ≡ 0 = eqb-true r.number 0 e in
        subst (λ (y : StringAnswer). UriMeans w (uri_added y.joins w new) uris stored x y) (sym (n.judged z))
        (joined-means (sym z ∙ n.number_is)))
        (λ e.
        let ne : r.number ≡ 0 → ⊥ = eqb-false r.number 0 e in
        record {
          string = refused-means uri w stored x (omega arith) (absent-fault n.number_is);
          row = λ z. absurd (ne z);
          text = λ z. absurd (ne z);
          hit = λ z. absurd (ne z);
        })

-- ---- the judgement

pub find-asks : {work : List ℕ} {uris stored : ℕ} → UriPre work uris stored → FindUriPre work uris
unfolding max_uris
find-asks p = record { room = p.room; few = p.few }

pub new-asks : {work : List ℕ} {x : Text} {uris stored : ℕ} → UriPre work uris stored
    → length x ≤ max_string → NewUriPre x uris stored
new-asks p short = record { store = p.store; short = short }

pub uri-long : {opening text : List ℕ} {x : Text} {uris stored : ℕ} {work : List ℕ} → max_string < length x
    → {r : StringAnswer} → r ≡ refused_as number_limit stored → UriPost opening text x uris stored work r
uri-long {opening} {text} {x} {uris} {stored} {work} h e =
    subst (UriPost opening text x uris stored work) (sym e)
    (record {
      refused = λ _. refl;
      bounds = λ z. absurd (omega (arith, z));
      meant = λ w v l few hold place. record {
        string = long-means uri w stored x h;
        row = λ z. absurd (omega (arith, z));
        text = λ z. absurd (omega (arith, z));
        hit = λ z. absurd (omega (arith, z));
      };
    })

-- What the search answers, where memory holds these URIs.
found-is : (opening text : List ℕ) (x : Text) {uris row : ℕ} {work : List ℕ}
    → FoundUri work (uri_store opening text) x uris row → (us : List Placed)
    → UrisHold work (uri_source opening text) uris us → row ≡ first_that (has_uri us x) (length us)
found-is opening text x f us hold =
    f.means (uri_source opening text) us hold (source-store opening_uris opening text)
    ∙ ap (first_that (has_uri us x)) (sym hold.count)

module _ (opening text : List ℕ) (x : Text) {uris stored row : ℕ} {work : List ℕ} (p : UriPre work uris stored)
    (f : FoundUri work (uri_store opening text) x uris row) where
  pub uri-hit : {g : ℕ} → row ≡ suc g → {r : StringAnswer} → r ≡ found_as g stored
      → UriPost opening text x uris stored work r
  uri-hit {g} is e =
      subst (UriPost opening text x uris stored work) (sym e)
      (record {
        refused = λ h. absurd (omega (arith, h));
        bounds = λ _. record {
          old = λ _. omega (arith, f.within);
          new = λ j. absurd (true≢false (sym j));
          unhashed = refl;
          stored_is = omega arith;
          store = p.store;
        };
        meant = λ w v l few hold place.
            found-means w x uris stored v l few hold.count p.store place g
            (omega (arith, found-is opening text x f w.uris hold));
      })

  pub uri-new : row ≡ 0 → length x ≤ max_string → {r : StringAnswer} → NewUriPost x uris stored r
      → UriPost opening text x uris stored work r
  uri-new z short {r} n =
      record {
        refused = n.refused;
        bounds = λ y.
            let ok = literal-passes x stored (left uris) n.number_is y in
            let (fits, _) = first_passes (ltb uris max_uris) limit [] ok.others in
            subst (UriBounds x uris stored) (sym (n.judged y))
            (record {
              old = λ j. absurd (true≢false j);
              new = λ _. (refl, ltb-true uris max_uris fits, record { short = short; chars = ok.chars });
              unhashed = refl;
              stored_is = refl;
              store = ok.store;
            });
        meant = λ w v l few hold place.
            absent-means w x uris stored v l few hold.count p.store place
            (sym z ∙ found-is opening text x f w.uris hold) short n;
      }
