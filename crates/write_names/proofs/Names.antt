-- The local name of a qualified name, judged: what each return leaves.
use Prim.Native.Nat.{ℕ, suc, ◌+◌, ◌-◌, ◌≤◌, ◌<◌}
use native.Mathlib.Omega.{arith}
use mathlib.Core.Path.{◌≡◌, refl, sym, ap, subst, ◌∙◌}
use mathlib.Core.Bool.{Bool, true, false, not, ◌&&◌, true≢false}
use mathlib.Core.List.{List, [], ◌∷◌, ◌++◌, map}
use mathlib.Core.Option.{some}
use lib.ListN.{length, replicate, length-append}
use lib.Dec.{eqb, ltb}
use borrow.Author.Tests.{eqb-true, eqb-false, eq-eqb, ltb-true, lt-ltb, le-ltb, not-true, not-false}
use Rattle.spec_fields.specs.Field.{Alignment}
use Rattle.spec_fields.specs.Refusal.{number_of, name, limit, number_name, number_limit}
use Rattle.spec_fields.proofs.Tests.{split}
use Rattle.text.specs.Text.{Text}
use Rattle.spec_exi.specs.Sizes.{sizes, max_string, max_store, max_names}
use Rattle.spec_exi.specs.Tables.{Placed, Entry, Role, local, names_of, partitions_of, hit, literal, hit_or}
use Rattle.spec_exi.specs.Tables.{form_of, form_bits, added, name_allowed, text_allowed}
use Rattle.spec_exi.specs.Context.{item}
use Rattle.spec_exi.specs.Lists.{within_tables}
use Rattle.spec_exi.specs.Writer.{Test, first_failed, string_tests}
use Rattle.mem_chain.specs.Chain.{first_that}
use Rattle.mem_chain.proofs.First.{first-most}
use Rattle.mem_layout.specs.Layout.{name_counts, opening_names}
use Rattle.mem_index.specs.Index.{tally, has_key, number_at, count_in}
use Rattle.mem_index.proofs.Tally.{tally-less}
use Rattle.mem_index.proofs.Codes.{count-is}
use Rattle.mem_entries.specs.Texts.{hash_of, Source}
use Rattle.mem_entries.specs.Entries.{Entries, key_at, text_at, given}
use Rattle.mem_entries.proofs.Entries.{entry_new, given-tally}
use Rattle.mem_names.specs.Uris.{uri_text}
use Rattle.mem_names.specs.Names.{is_entry, NamesHold, name_in, name_store, FindNamePre, FoundName}
use Rattle.mem_names.proofs.Names.{found_name, name-at-is}
use Rattle.mem_names.proofs.Tables.{number_from}
use Rattle.mem_rows.specs.Rows.{Rows, placed_at, name_at, tables_of, with_name}
use Rattle.mem_rows.specs.Valid.{Valid}
use Rattle.mem_rows.proofs.Alike.{name-joins-alike}
use Rattle.mem_rows.proofs.Forms.{own-count, name-form, name-fresh}
use Rattle.mem_rows.proofs.Grown.{name-grows}
use Rattle.mem_rows.proofs.Within.{names-count, within-local}
use Rattle.mem_state.specs.Strung.{name_added}
use Rattle.name_rules.specs.Names.{is_reserved}
use Rattle.name_rules.proofs.Laws.{attribute-allowed, element-allowed}
use Rattle.write_partition.specs.Writable.{Written, Writable, Few, tables_in, name_source}
use Rattle.write_partition.specs.Judged.{StringAnswer, fault_number, literal_tests, refused_as, found_as, literal_as}
use Rattle.write_partition.proofs.Tests.{number-then, number-first, first_passes, literal-passes}
use Rattle.write_partition.proofs.Rows.{source-store, zeros, few-within, name-writable}
use Rattle.write_partition.proofs.Hits.{hit-form-bits}
use Rattle.write_partition.proofs.Means.{refused-means, long-means, hit-refused, hit-means, literal-fault}
use Rattle.write_partition.proofs.Means.{literal-means}
use Rattle.write_names.specs.Names.{NewNamePre, NewNamePost, NamePre, name_bits, NameBounds, NameMeans}
use Rattle.write_names.specs.Names.{NamePost}

-- ---- a literal

-- The tests after those of its text.
abbrev others : Bool → Text → Text → ℕ → List Test
others attr u x names = (name_allowed (local attr u) x, name) ∷ (ltb names max_names, limit) ∷ []

module _ (attr : Bool) (u x : Text) (names stored h : ℕ) {fault : ℕ}
    (f : fault ≡ fault_number (first_failed (literal_tests x stored))) where
  abbrev Post : StringAnswer → Type 0
  Post r = NewNamePost attr u x names stored h r

  pub name-fault : (fault ≡ 0 → ⊥) → {r : StringAnswer} → r ≡ refused_as fault stored → Post r
  name-fault ne e =
      subst Post (sym e)
      (record {
        number_is = number-first (literal_tests x stored) (others attr u x names) f (omega arith);
        refused = λ _. refl;
        judged = λ z. absurd (ne z);
      })

  module _ (z : fault ≡ 0) {b : Bool} (a : b ≡ name_allowed (local attr u) x) where
    -- The number by what is left to be tested.
    later : {n l : Bool} → b ≡ n → ltb names max_names ≡ l
        → fault_number (first_failed ((n, name) ∷ (l, limit) ∷ []))
        ≡ fault_number (first_failed (literal_tests x stored ++ others attr u x names))
    later {n} {l} p q =
        ap (λ n. fault_number (first_failed ((n, name) ∷ (l, limit) ∷ []))) (sym p ∙ a)
        ∙ ap (λ l. fault_number (first_failed ((name_allowed (local attr u) x, name) ∷ (l, limit) ∷ []))) (sym q)
        ∙ sym (number-then (literal_tests x stored) (others attr u x names) f z)

    pub name-forbidden : not b ≡ true → {r : StringAnswer} → r ≡ refused_as number_name stored → Post r
    unfolding fault_number first_failed number_of
    name-forbidden n e =
        subst Post (sym e)
        (record {
          number_is = later (not-true b n) refl;
          refused = λ _. refl;
          judged = λ y. absurd (omega (arith, y));
        })

    module _ (n : not b ≡ false) where
      pub name-full : max_names ≤ names → {r : StringAnswer} → r ≡ refused_as number_limit stored → Post r
      unfolding fault_number first_failed number_of
      name-full l e =
          subst Post (sym e)
          (record {
            number_is = later (not-false b n) (le-ltb names max_names l);
            refused = λ _. refl;
            judged = λ y. absurd (omega (arith, y));
          })

      pub name-joins : names < max_names → {r : StringAnswer} → r ≡ literal_as names stored (length x) true h
          → Post r
      unfolding fault_number first_failed
      name-joins l e =
          subst Post (sym e)
          (record {
            number_is = later (not-false b n) (lt-ltb names max_names l);
            refused = λ y. absurd (omega (arith, y));
            judged = λ _. refl;
          })

-- ---- what it means

module _ (attr : Bool) (w : Rows) (u : ℕ) (x : Text) (names stored : ℕ) (valid : Valid w) (writable : Writable w)
    (few : Few w) (count : length w.names ≡ names) (inside : u < length w.uris) (low : stored ≤ max_store)
    (work : List ℕ) (place : ℕ) where
  abbrev new : Placed
  new = record { place = place; text = x }

  abbrev role : Role
  role = local attr (uri_text w.uris u)

  abbrev Means : Bool → StringAnswer → Type 0
  Means joins r = NameMeans attr w (name_added joins u w new) u stored (uri_text w.uris u) x work r

  -- ---- a row of the URI's

  module _ (from : ℕ → Source) (hold : NamesHold work from names w.names) (g : ℕ)
      (found : suc g ≡ first_that (is_entry w.names u x) (length w.names)) where
    abbrev id : ℕ
    id = tally (has_key (key_at w.names) u) g

    found-form : form_of (partitions_of (tables_in w stored) role) x ≡ hit 0 id
    unfolding number_from hit_or
    found-form = name-form valid u inside x (suc g) found (replicate stored 0) attr

    found_inside : g < length w.names
    found_inside = omega (arith, first-most (is_entry w.names u x) (length w.names))

    found-key : key_at w.names g ≡ u
    found-key = (found_name w.names u x g found).1

    found-text : text_at w.names g ≡ x
    found-text = (found_name w.names u x g found).2

    found-written : Written x
    found-written = subst Written found-text (writable.names g found_inside)

    found-allowed : name_allowed role x ≡ not (attr && is_reserved (uri_text w.uris u) x)
    unfolding name_at placed_at
    found-allowed =
        attribute-allowed attr (uri_text w.uris u) x
        (rw (found-key, found-text) at (valid.judged.names g found_inside))

    among-is : count_in work name_counts u ≡ length (given w.names u)
    among-is =
        count-is hold.by_uri u (omega (arith, found-key, hold.by_uri.owned g (omega (arith, count, found_inside))))
        ∙ ap (tally (has_key (key_at w.names) u)) (sym count) ∙ sym (given-tally w.names u)

    number_is : (name_in work g).number ≡ id
    unfolding number_at
    number_is =
        ((name-at-is (omega (arith, found_inside, count, hold.few))).means from names w.names hold
        (omega (arith, count, found_inside))).number
        ∙ ap (λ k. tally (has_key (key_at w.names) k) g) found-key

    id-among : id < count_in work name_counts u
    id-among =
        omega (
          arith,
          among-is,
          given-tally w.names u,
          tally-less (has_key (key_at w.names) u) (length w.names) g found_inside
              (eq-eqb u (key_at w.names g) (sym found-key)),
        )

    found-bits : (a : Alignment)
        → form_bits a (partitions_of (tables_in w stored) role) (hit 0 id) x ≡ name_bits work u g false x a
    unfolding partitions_of name_bits
    found-bits a =
        rw number_is
        (hit-form-bits a (map some (names_of (tables_in w stored) (uri_text w.uris u)) ∷ []) 0 id x
        (own-count valid u inside (replicate stored 0) ∙ sym among-is) id-among)

    found-means : attr && is_reserved (uri_text w.uris u) x ≡ false → Means false (found_as g stored)
    unfolding name_added text_allowed
    found-means free =
        record {
          string = hit-means role w stored x found-form few low found-written refl (found-allowed ∙ ap not free) valid
              writable found-bits;
          row = λ _. found_inside;
          key = λ _. found-key;
          text = λ _. found-text;
          hit = λ _ _. record { id = id; form = found-form };
        }

    reserved-means : attr && is_reserved (uri_text w.uris u) x ≡ true → Means false (refused_as number_name stored)
    unfolding text_allowed
    reserved-means taken =
        record {
          string = hit-refused role w stored x found-form few low found-written refl (found-allowed ∙ ap not taken);
          row = λ z. absurd (omega (arith, z));
          key = λ z. absurd (omega (arith, z));
          text = λ z. absurd (omega (arith, z));
          hit = λ z. absurd (omega (arith, z));
        }

  -- ---- a name that the URI does not have

  module _ (absent : 0 ≡ first_that (is_entry w.names u x) (length w.names)) (short : length x ≤ max_string) where
    absent-form : form_of (partitions_of (tables_in w stored) role) x ≡ literal
    unfolding number_from hit_or
    absent-form = name-form valid u inside x 0 absent (replicate stored 0) attr

    absent-bits : (a : Alignment)
        → form_bits a (partitions_of (tables_in w stored) role) literal x ≡ name_bits work u names true x a
    unfolding partitions_of form_bits name_bits
    absent-bits a = refl

    row-left : stored + length x ≤ max_store
        → within_tables sizes (added (tables_in w stored) role x) ≡ ltb names max_names
    unfolding tables_of
    row-left h =
        within-local (tables_in w stored) x (few-within few low) (omega (arith, zeros stored)) attr (uri_text w.uris u)
        ∙ ap (λ m. ltb m max_names) (names-count w (replicate stored 0) ∙ count)

    abbrev tests : List Test
    tests = literal_tests x stored ++ others attr (uri_text w.uris u) x names

    absent-fault : {number : ℕ} → number ≡ fault_number (first_failed tests)
        → number ≡ fault_number (first_failed (string_tests sizes (tables_in w stored) (item role x)))
    unfolding text_allowed
    absent-fault f = literal-fault role w stored x absent-form short refl (ltb names max_names) row-left f

    abbrev entry : Entry ℕ
    entry = record { key = u; string = new }

    -- It joins.
    joined-means : (h : ℕ) → 0 ≡ fault_number (first_failed tests) → Means true (literal_as names stored (length x) true h)
    unfolding name_added with_name
    joined-means h f =
        let ok = literal-passes x stored (others attr (uri_text w.uris u) x names) f refl in
        let (allowed, _) = first_passes (name_allowed role x) name _ ok.others in
        let last : key_at (w.names ++ (entry ∷ [])) (length w.names) ≡ u
        = ap (λ (e : Entry ℕ). e.key) (entry_new w.names entry) in
        let text : text_at (w.names ++ (entry ∷ [])) (length w.names) ≡ x
        = ap (λ (e : Entry ℕ). e.string.text) (entry_new w.names entry) in
        record {
          string = literal-means role w stored x absent-form (absent-fault f) absent-bits
              (name-joins-alike w valid.refers (replicate stored 0) new attr u)
              (name-grows valid u new inside (name-fresh valid u inside x 0 absent refl)
              (element-allowed attr (uri_text w.uris u) x allowed))
              (name-writable writable new (record { short = short; chars = ok.chars }) u);
          row = λ _. omega (arith, count, length-append w.names (entry ∷ []));
          key = λ _. ap (key_at (w.names ++ (entry ∷ []))) (sym count) ∙ last;
          text = λ _. ap (text_at (w.names ++ (entry ∷ []))) (sym count) ∙ text;
          hit = λ _ j. absurd (true≢false j);
        }

    absent-means : {h : ℕ} {r : StringAnswer} → NewNamePost attr (uri_text w.uris u) x names stored h r
        → Means r.joins r
    absent-means {h} {r} n =
        split (eqb r.number 0)
        (λ e.
        let z : r.number ≡ 0 = eqb-true r.number 0 e in
        subst (λ (y : StringAnswer). Means y.joins y) (sym (n.judged z)) (joined-means h (sym z ∙ n.number_is)))
        (λ e.
        let ne : r.number ≡ 0 → ⊥ = eqb-false r.number 0 e in
        record {
          string = refused-means role w stored x (omega arith) (absent-fault n.number_is);
          row = λ z. absurd (ne z);
          key = λ z. absurd (ne z);
          text = λ z. absurd (ne z);
          hit = λ z. absurd (ne z);
        })

-- ---- the judgement

pub find-asks : {work : List ℕ} {names uri stored : ℕ} → NamePre work names uri stored → FindNamePre work uri names
unfolding max_names
find-asks p = record { room = p.room; low = p.low; few = p.few }

pub new-asks : {work : List ℕ} {x : Text} {names uri stored : ℕ} → NamePre work names uri stored
    → length x ≤ max_string → NewNamePre x names stored
new-asks p short = record { store = p.store; short = short }

module _ (opening text : List ℕ) (attr : Bool) (u x : Text) {names uri stored : ℕ} {work : List ℕ}
    (p : NamePre work names uri stored) where
  abbrev Left : StringAnswer → Type 0
  Left r = NamePost opening text attr uri u x names stored work r

  -- What it means, where the URI has this text.
  abbrev Told : Rows → ℕ → StringAnswer → Text → Type 0
  Told w place r y =
      NameMeans attr w (name_added r.joins uri w (record { place = place; text = x })) uri stored y x work r

  pub name-long : max_string < length x → {r : StringAnswer} → r ≡ refused_as number_limit stored → Left r
  name-long h e =
      subst Left (sym e)
      (record {
        refused = λ _. refl;
        bounds = λ z. absurd (omega (arith, z));
        meant = λ w v l few hold inside is place. record {
          string = long-means (local attr u) w stored x h;
          row = λ z. absurd (omega (arith, z));
          key = λ z. absurd (omega (arith, z));
          text = λ z. absurd (omega (arith, z));
          hit = λ z. absurd (omega (arith, z));
        };
      })

  module _ {h row : ℕ} (hashed : h ≡ hash_of x) (f : FoundName work (name_store opening text) uri x h names row) where
    -- What the search answers, where memory holds these names.
    found-is : (ns : Entries) → NamesHold work (name_source opening text) names ns
        → row ≡ first_that (is_entry ns uri x) (length ns)
    found-is ns hold =
        f.means (name_source opening text) ns hold (source-store opening_names opening text) hashed
        ∙ ap (first_that (is_entry ns uri x)) (sym hold.count)

    pub name_new : row ≡ 0 → length x ≤ max_string → {r : StringAnswer} → NewNamePost attr u x names stored h r → Left r
    name_new z short {r} n =
        record {
          refused = n.refused;
          bounds = λ y.
              let ok = literal-passes x stored (others attr u x names) n.number_is y in
              let (_, room) = first_passes (name_allowed (local attr u) x) name _ ok.others in
              let (fits, _) = first_passes (ltb names max_names) limit [] room in
              subst (NameBounds x names stored) (sym (n.judged y))
              (record {
                old = λ j. absurd (true≢false j);
                new = λ _. (refl, ltb-true names max_names fits, record { short = short; chars = ok.chars }, hashed);
                unhashed = λ j. absurd (true≢false j);
                stored_is = refl;
                store = ok.store;
              });
          meant = λ w v l few hold inside is place.
              subst (λ y. NewNamePost attr y x names stored h r → Told w place r y) is
              (λ m. absent-means attr w uri x names stored v l few hold.count inside p.store work place
              (sym z ∙ found-is w.names hold) short m)
              n;
        }

    module _ {g : ℕ} (at : row ≡ suc g) {b : Bool} (known : b ≡ is_reserved u x) where
      pub name-reserved : attr && b ≡ true → {r : StringAnswer} → r ≡ refused_as number_name stored → Left r
      name-reserved taken e =
          subst Left (sym e)
          (record {
            refused = λ _. refl;
            bounds = λ z. absurd (omega (arith, z));
            meant = λ w v l few hold inside is place.
                subst (λ y. attr && is_reserved y x ≡ true → Told w place (refused_as number_name stored) y) is
                (λ t. reserved-means attr w uri x names stored v l few hold.count inside p.store work place
                (name_source opening text) hold g (omega (arith, found-is w.names hold)) t)
                (ap (λ c. attr && c) (sym known) ∙ taken);
          })

      pub name-hit : attr && b ≡ false → {r : StringAnswer} → r ≡ found_as g stored → Left r
      name-hit free e =
          subst Left (sym e)
          (record {
            refused = λ y. absurd (omega (arith, y));
            bounds = λ _. record {
              old = λ _. omega (arith, f.within);
              new = λ j. absurd (true≢false (sym j));
              unhashed = λ _. refl;
              stored_is = omega arith;
              store = p.store;
            };
            meant = λ w v l few hold inside is place.
                subst (λ y. attr && is_reserved y x ≡ false → Told w place (found_as g stored) y) is
                (λ t. found-means attr w uri x names stored v l few hold.count inside p.store work place
                (name_source opening text) hold g (omega (arith, found-is w.names hold)) t)
                (ap (λ c. attr && c) (sym known) ∙ free);
          })
