-- The content of an event, as a look sees it.
use Prim.Native.Nat.{ℕ, ◌*◌, ◌≤◌}
use mathlib.Core.Path.{◌≡◌, refl, ◌∙◌, ap}
use mathlib.Core.Bool.{Bool, true, false}
use mathlib.Core.List.{List, []}
use mathlib.Core.Option.{none}
use native.Mathlib.Omega.{arith}
use lib.ListN.{length}
use Rattle.spec_fields.specs.Parser.{return}
use Rattle.spec_fields.specs.Field.{Alignment}
use Rattle.text.specs.Text.{Text}
use Rattle.spec_fields.proofs.Steady.{steady-return}
use Rattle.spec_exi.specs.Settings.{Settings}
use Rattle.spec_exi.specs.Sizes.{sizes}
use Rattle.spec_exi.specs.Event.{QName}
use Rattle.spec_exi.specs.Tables.{Tables, Role, value, target, comment_text}
use Rattle.spec_exi.specs.Tables.{literals, instruction_text, partitions_of, name_text}
use Rattle.spec_exi.specs.Reader.{read_string, readName, readContent}
use Rattle.spec_exi.proofs.Steady.{steady-string, steady-name}
use Rattle.mem_rows.specs.Rows.{kind_at, tables_of}
use Rattle.read_contract.proofs.Outcome.{return-gotten}
use Rattle.receiver_strings.specs.View.{Looked}
use Rattle.receiver_strings.specs.Cuts.{Sees}
use Rattle.receiver_strings.specs.Strings.{StringSeen}
use Rattle.receiver_strings.proofs.Cuts.{passes-return, sees-then, sees-after}
use Rattle.receiver_strings.proofs.Cuts.{sees-nothing, sees-field}
use Rattle.receiver_look.specs.Look.{ThenSeen, NameSeen, Tabled, HitSeen, AttributeSeen}
use Rattle.receiver_look.specs.Look.{InstructionSeen, ContentSeen}
use Rattle.receiver_look.proofs.Names.{sees-string, sees-two}

pub uris-count : {work : List ℕ} {uris : ℕ} {t : Tables} → Tabled work uris t
    → length t.uris ≡ uris
unfolding tables_of
uris-count h = ap (λ (x : Tables). length x.uris) h.is ∙ h.count

-- ---- a value after a name

module _ (s : Settings) (t : Tables) (stream : List ℕ) (at : ℕ) (r : Looked) where
  value-seen : (q : QName Text) → StringSeen stream at 2 r
      → Sees s (read_string sizes s t (value q)) stream at r
  unfolding partitions_of
  value-seen q h = sees-string s t stream at r (value q) _ refl (h.sees s t _ refl)

  text-seen : (role : Role) → partitions_of t role ≡ literals [] → StringSeen stream at 0 r
      → Sees s (read_string sizes s t role) stream at r
  text-seen role e h = sees-string s t stream at r role [] e (h.sees s t [] refl)

module _ {a : Alignment} {stream work : List ℕ} {at uris : ℕ} {r : Looked} where
  pub attribute-known : StringSeen stream at 2 r → at ≤ 8 * length stream
      → AttributeSeen a stream work at true uris r
  unfolding readContent readName
  attribute-known h l =
      record {
        bounds = h.bounds;
        sees = λ s b t e st q c.
            let (x, is) = c.some_is refl refl in
            rw is
            (sees-field s (return (x, t)) _ stream at (steady-return (x, t)) (return-gotten (x, t) l)
            (sees-then s _ _ stream at r (λ v. passes-return _ _)
            (value-seen s t stream at r (name_text x) h)));
      }

  pub attribute-new : {n : Looked} → NameSeen a stream at uris n → ThenSeen stream n 2 r
      → AttributeSeen a stream work at false uris r
  unfolding readContent
  attribute-new {n} h y =
      record {
        bounds = y.bounds;
        sees = λ s b t e st q c.
            rw (c.none_is refl)
            (sees-two s _ _ stream at n r (steady-name sizes s t true none) (h.sees s b t (uris-count e) true) y
            (λ x z.
            sees-then s _ _ stream n.at r (λ v. passes-return _ _)
            (value-seen s x.1 stream n.at r (name_text x.0) z)));
      }

  -- After a name that came by its numbers.
  pub attribute-hit : {h : Looked} → HitSeen a stream work at uris h → h.past ≡ true
      → StringSeen stream h.at 2 r → AttributeSeen a stream work at false uris r
  unfolding readContent
  attribute-hit {h} y p z =
      record {
        bounds = z.bounds;
        sees = λ s b t e st q c.
            rw (c.none_is refl)
            (sees-after s _ _ stream at (steady-name sizes s t true none)
            (record { past = true; at = h.at; left = 0 }) r
            (record { past = λ _. y.past p s b e; cut = λ l. absurd (omega arith) }) refl
            (λ x.
            sees-then s _ _ stream h.at r (λ v. passes-return _ _)
            (value-seen s x.1 stream h.at r (name_text x.0) z)));
      }

pub instruction-seen : {stream : List ℕ} {at : ℕ} {l r : Looked} → StringSeen stream at 0 l
    → ThenSeen stream l 0 r → InstructionSeen stream at r
unfolding readContent partitions_of
instruction-seen {stream} {at} {l} {r} h y =
    record {
      bounds = y.bounds;
      sees = λ s t st q.
          sees-two s _ _ stream at l r (steady-string sizes s t target)
          (text-seen s t stream at l target refl h) y
          (λ x z.
          sees-then s _ _ stream l.at r (λ v. passes-return _ _)
          (text-seen s x.1 stream l.at r instruction_text refl z));
    }

-- ---- by the kind

module _ {a : Alignment} {stream work : List ℕ} {at : ℕ} (uris : ℕ) where
  pub content-nothing : (kind : ℕ) (learned : Bool) → at ≤ 8 * length stream
      → ContentSeen a stream work at kind learned uris (record { past = false; at = at; left = 0 })
  content-nothing kind learned l =
      record {
        bounds = record { inside = l; few = omega arith };
        sees = λ s b t e st v q c. sees-nothing s _ stream at at;
      }

  module _ {kind : ℕ} {r : Looked} where
    pub content-name : kind ≡ 2 → NameSeen a stream at uris r
        → ContentSeen a stream work at kind false uris r
    unfolding readContent kind_at
    content-name k h =
        record {
          bounds = h.bounds;
          sees = λ s b t e st v q c.
              rw (k, c.none_is refl)
              (sees-then s _ _ stream at r (λ x. passes-return _ _) (h.sees s b t (uris-count e) false));
        }

    pub content-attribute : kind ≡ 3 → {learned : Bool} → AttributeSeen a stream work at learned uris r
        → ContentSeen a stream work at kind learned uris r
    unfolding kind_at
    content-attribute k h =
        record {
          bounds = h.bounds;
          sees = λ s b t e st v q c.
              rw k
              (h.sees s b t e st q
              (record { none_is = c.none_is; some_is = λ x _. c.some_is x k }));
        }

    pub content-characters : kind ≡ 5 → {learned : Bool} → StringSeen stream at 2 r
        → ContentSeen a stream work at kind learned uris r
    unfolding readContent kind_at
    content-characters k h =
        record {
          bounds = h.bounds;
          sees = λ s b t e st v q c.
              let (n, is) = v k in
              rw (k, is)
              (sees-then s _ _ stream at r (λ x. passes-return _ _) (value-seen s t stream at r n h));
        }

    pub content-comment : kind ≡ 6 → {learned : Bool} → StringSeen stream at 0 r
        → ContentSeen a stream work at kind learned uris r
    unfolding readContent kind_at partitions_of
    content-comment k h =
        record {
          bounds = h.bounds;
          sees = λ s b t e st v q c.
              rw k
              (sees-then s _ _ stream at r (λ x. passes-return _ _)
              (text-seen s t stream at r comment_text refl h));
        }

    pub content-instruction : kind ≡ 7 → {learned : Bool} → InstructionSeen stream at r
        → ContentSeen a stream work at kind learned uris r
    unfolding kind_at
    content-instruction k h =
        record { bounds = h.bounds; sees = λ s b t e st v q c. rw k (h.sees s t st q) }
