-- The lists with the shape of a document (Lists.antt) are those that the states of Grammar.antt run
-- through, from the first to the last.
use Prim.Native.Nat.{ℕ}
use native.Mathlib.Omega.{arith}
use mathlib.Core.Path.{◌≡◌, refl, sym, ◌∙◌, ap, subst}
use mathlib.Core.Bool.{Bool, true, false, cond}
use mathlib.Core.List.{List, [], ◌∷◌, ◌++◌, append_assoc}
use lib.Dec.{T}
use Rattle.text.specs.Text.{Text}
use Rattle.spec_exi.specs.Event.{QName, Event, start_document, end_document, end_element}
use Rattle.spec_exi.specs.Event.{start_element, attribute, characters, comment, instruction}
use Rattle.spec_exi.specs.Event.{SD, ED, SE, AT, EE, CH, CM, PI, kind_of}
use Rattle.spec_exi.specs.Settings.{Settings}
use Rattle.spec_exi.specs.Grammar.{State, document, doc_content, doc_end, finished, start_tag}
use Rattle.spec_exi.specs.Grammar.{fragment_content, element_content, open_elements, outermost}
use Rattle.spec_exi.specs.Grammar.{closed, in_content, state_after}
use Rattle.spec_exi.specs.Lists.{Misc, Inner, an_attribute, no_more, Content, some_characters}
use Rattle.spec_exi.specs.Lists.{an_element, Elements, Document, a_document, a_fragment}

-- The events that a state has a production for, by kind alone.
unfoldable pub allowed : Settings → State → Event Text → Bool
unfolding kind_of
allowed s document e =
    elim (kind_of e) [
      | SD ↦ true
      | ED ↦ false
      | SE ↦ false
      | AT ↦ false
      | EE ↦ false
      | CH ↦ false
      | CM ↦ false
      | PI ↦ false
    ]
allowed s doc_content e =
    elim (kind_of e) [
      | SD ↦ false
      | ED ↦ false
      | SE ↦ true
      | AT ↦ false
      | EE ↦ false
      | CH ↦ false
      | CM ↦ s.comments
      | PI ↦ s.instructions
    ]
allowed s doc_end e =
    elim (kind_of e) [
      | SD ↦ false
      | ED ↦ true
      | SE ↦ false
      | AT ↦ false
      | EE ↦ false
      | CH ↦ false
      | CM ↦ s.comments
      | PI ↦ s.instructions
    ]
allowed s fragment_content e =
    elim (kind_of e) [
      | SD ↦ false
      | ED ↦ true
      | SE ↦ true
      | AT ↦ false
      | EE ↦ false
      | CH ↦ false
      | CM ↦ s.comments
      | PI ↦ s.instructions
    ]
allowed s finished e = false
allowed s (start_tag q outer) e =
    elim (kind_of e) [
      | SD ↦ false
      | ED ↦ false
      | SE ↦ true
      | AT ↦ true
      | EE ↦ true
      | CH ↦ true
      | CM ↦ s.comments
      | PI ↦ s.instructions
    ]
allowed s (element_content q outer) e =
    elim (kind_of e) [
      | SD ↦ false
      | ED ↦ false
      | SE ↦ true
      | AT ↦ false
      | EE ↦ true
      | CH ↦ true
      | CM ↦ s.comments
      | PI ↦ s.instructions
    ]

-- Events that the shape allows, one after the other, up to the end of the document.
pub data Run (s : Settings) : State → List (Event Text) → Type 0 where
  stop : Run s finished []
  go : {st : State} {l : List (Event Text)} (e : Event Text) → T (allowed s st e)
      → Run s (state_after s st e) l → Run s st (e ∷ l)

-- ---- a document is run through

-- From the state of any element there is a run through l, the element's end and r, if there is one
-- through r after the element.
abbrev Through : Settings → (QName Text → List (QName Text) → State) → List (Event Text) → Type 0
Through s state l =
    (q : QName Text) (outer : List (QName Text)) (r : List (Event Text)) → Run s (closed s (q ∷ outer)) r
    → Run s (state q outer) (l ++ end_element ∷ r)

module _ {s : Settings} where
  -- In a state that comments and instructions do not change.
  run-misc : {st : State} {m r : List (Event Text)}
      → ((x : Text) (l : List (Event Text)) → T s.comments → Run s st l → Run s st (comment x ∷ l))
      → ((x y : Text) (l : List (Event Text)) → T s.instructions → Run s st l → Run s st (instruction x y ∷ l))
      → Misc s m → Run s st r → Run s st (m ++ r)
  run-misc f g Misc.nothing r = r
  run-misc f g (Misc.a_comment x t m) r = f x _ t (run-misc f g m r)
  run-misc f g (Misc.an_instruction x y t m) r = g x y _ t (run-misc f g m r)

  -- What is allowed in an element's content is so in its start tag, and leads to the same state.
  run-tag : {q : QName Text} {outer : List (QName Text)} {l : List (Event Text)} → Run s (element_content q outer) l
      → Run s (start_tag q outer) l
  unfolding allowed state_after in_content open_elements
  run-tag (go start_document t r) = absurd t
  run-tag (go end_document t r) = absurd t
  run-tag (go end_element t r) = go end_element t r
  run-tag (go (start_element p) t r) = go (start_element p) t r
  run-tag (go (attribute p v) t r) = absurd t
  run-tag (go (characters v) t r) = go (characters v) t r
  run-tag (go (comment x) t r) = go (comment x) t r
  run-tag (go (instruction x y) t r) = go (instruction x y) t r

  run-inner : {l : List (Event Text)} → Inner s l → Through s start_tag l
  unfolding allowed state_after in_content open_elements closed
  run-inner i =
      elim i as (λ l x. Through s start_tag l) (λ l x. Through s element_content l) [
        | an_attribute p v (i → h) ↦ λ q outer r x. go (attribute p v) tt (h q outer r x)
        | no_more (c → h) ↦ λ q outer r x. run-tag (h q outer r x)
        | Content.nothing ↦ λ q outer r x. go end_element tt x
        | some_characters v (c → h) ↦ λ q outer r x. go (characters v) tt (h q outer r x)
        | Content.a_comment y t (c → h) ↦ λ q outer r x. go (comment y) t (h q outer r x)
        | Content.an_instruction y z t (c → h) ↦ λ q outer r x. go (instruction y z) t (h q outer r x)
        | an_element p (i → h) (c → k) ↦ λ q outer r x. rw append_assoc
            (go (start_element p) tt (h p (q ∷ outer) _ (k q outer r x)))
      ]

-- By the setting, the first of two states or the second.
as-fragment : (s : Settings) (a b : State) (l : List (Event Text)) → s.fragment ≡ true → Run s a l
    → Run s (cond s.fragment a b) l
as-fragment s a b l f r = subst (λ c. Run s (cond c a b) l) (sym f) r

as-document : (s : Settings) (a b : State) (l : List (Event Text)) → s.fragment ≡ false → Run s b l
    → Run s (cond s.fragment a b) l
as-document s a b l f r = subst (λ c. Run s (cond c a b) l) (sym f) r

-- A well-formed list is such a run.
pub run-of-document : (s : Settings) (l : List (Event Text)) → Document s l → Run s document l
unfolding allowed state_after in_content open_elements outermost closed
run-of-document s l (a_document q f m i n) =
    go start_document tt (as-document s fragment_content doc_content _ f (before m (go (start_element q) tt
    (run-inner i q [] _ (as-document s fragment_content doc_end _ f (behind n (go end_document tt stop)))))))
  where
    before : {m l : List (Event Text)} → Misc s m → Run s doc_content l → Run s doc_content (m ++ l)
    before = run-misc (λ x l. go (comment x)) (λ x y l. go (instruction x y))

    behind : {m l : List (Event Text)} → Misc s m → Run s doc_end l → Run s doc_end (m ++ l)
    behind = run-misc (λ x l. go (comment x)) (λ x y l. go (instruction x y))
run-of-document s l (a_fragment f es) =
    go start_document tt (as-fragment s fragment_content doc_content _ f (through es))
  where
    through : {l : List (Event Text)} → Elements s l → Run s fragment_content (l ++ end_document ∷ [])
    through Elements.nothing = go end_document tt stop
    through (Elements.a_comment x t es) = go (comment x) t (through es)
    through (Elements.an_instruction x y t es) = go (instruction x y) t (through es)
    through (Elements.an_element q i es) =
        rw append_assoc (go (start_element q) tt
        (run-inner i q [] _ (as-fragment s fragment_content doc_end _ f (through es))))

-- ---- a run is through a document

both_ways : {X : Type 0} (b : Bool) → b ≡ true → b ≡ false → X
both_ways b e f =
    let z : ◌≡◌ {A = ℕ} 1 0 = ap (λ b. cond b 1 0) (sym e ∙ f) in absurd (omega arith)

-- What is still to come in a state, put together from the shapes of Lists.antt.
data Rest (s : Settings) : State → List (Event Text) → Type 0 where
  whole : {l : List (Event Text)} → Document s l → Rest s document l
  before : {m i n : List (Event Text)} (q : QName Text) → s.fragment ≡ false → Misc s m → Inner s i
      → Misc s n
      → Rest s doc_content (m ++ start_element q ∷ (i ++ end_element ∷ (n ++ end_document ∷ [])))
  in_tag : {q : QName Text} {outer : List (QName Text)} {i l : List (Event Text)} → Inner s i
      → Rest s (closed s (q ∷ outer)) l
      → Rest s (start_tag q outer) (i ++ end_element ∷ l)
  in_element : {q : QName Text} {outer : List (QName Text)} {c l : List (Event Text)} → Content s c
      → Rest s (closed s (q ∷ outer)) l
      → Rest s (element_content q outer) (c ++ end_element ∷ l)
  behind : {n : List (Event Text)} → Misc s n → Rest s doc_end (n ++ end_document ∷ [])
  between : {l : List (Event Text)} → Elements s l → Rest s fragment_content (l ++ end_document ∷ [])
  -- A fragment has no document's content, and a document no fragment's.
  no_document : {l : List (Event Text)} → s.fragment ≡ true → Rest s doc_content l
  no_fragment : {l : List (Event Text)} → s.fragment ≡ false → Rest s fragment_content l
  none : Rest s finished []

module _ {s : Settings} where
  rest-start : {l : List (Event Text)} (b : Bool) → s.fragment ≡ b
      → Rest s (cond b fragment_content doc_content) l → Document s (start_document ∷ l)
  rest-start true e (between es) = a_fragment e es
  rest-start true e (no_fragment f) = both_ways s.fragment e f
  rest-start false e (before q f m i n) = a_document q f m i n
  rest-start false e (no_document f) = both_ways s.fragment f e

  rest-root : {i l : List (Event Text)} (q : QName Text) (b : Bool) → s.fragment ≡ b → Inner s i
      → Rest s (cond b fragment_content doc_end) l
      → Rest s doc_content (start_element q ∷ (i ++ end_element ∷ l))
  rest-root q true e i r = no_document e
  rest-root q false e i (behind n) = before q e Misc.nothing i n

  rest-one : {i l : List (Event Text)} (q : QName Text) (b : Bool) → s.fragment ≡ b → Inner s i
      → Rest s (cond b fragment_content doc_end) l
      → Rest s fragment_content (start_element q ∷ (i ++ end_element ∷ l))
  rest-one q true e i (between es) = rw append_assoc at (between (Elements.an_element q i es))
  rest-one q true e i (no_fragment f) = both_ways s.fragment e f
  rest-one q false e i r = no_fragment e

  rest-child : {q : QName Text} {outer : List (QName Text)} {i l : List (Event Text)} (p : QName Text) → Inner s i
      → Rest s (element_content q outer) l → Rest s (element_content q outer) (start_element p ∷ (i ++ end_element ∷ l))
  rest-child p i (in_element c r) = rw append_assoc at (in_element (an_element p i c) r)

  rest-tag : {q : QName Text} {outer : List (QName Text)} {l : List (Event Text)} → Rest s (element_content q outer) l
      → Rest s (start_tag q outer) l
  rest-tag (in_element c r) = in_tag (no_more c) r

  -- One event more in front.
  extend : {l : List (Event Text)} (st : State) (e : Event Text) → T (allowed s st e)
      → Rest s (state_after s st e) l → Rest s st (e ∷ l)
  unfolding allowed state_after open_elements outermost closed in_content
  extend document start_document t r = whole (rest-start s.fragment refl r)
  extend document end_document t r = absurd t
  extend document end_element t r = absurd t
  extend document (start_element q) t r = absurd t
  extend document (attribute q v) t r = absurd t
  extend document (characters v) t r = absurd t
  extend document (comment x) t r = absurd t
  extend document (instruction x y) t r = absurd t
  extend doc_content start_document t r = absurd t
  extend doc_content end_document t r = absurd t
  extend doc_content end_element t r = absurd t
  extend doc_content (start_element q) t (in_tag i r) = rest-root q s.fragment refl i r
  extend doc_content (attribute q v) t r = absurd t
  extend doc_content (characters v) t r = absurd t
  extend doc_content (comment x) t (before q f m i n) = before q f (Misc.a_comment x t m) i n
  extend doc_content (comment x) t (no_document f) = no_document f
  extend doc_content (instruction x y) t (before q f m i n) = before q f (Misc.an_instruction x y t m) i n
  extend doc_content (instruction x y) t (no_document f) = no_document f
  extend fragment_content start_document t r = absurd t
  extend fragment_content end_document t none = between Elements.nothing
  extend fragment_content end_element t r = absurd t
  extend fragment_content (start_element q) t (in_tag i r) = rest-one q s.fragment refl i r
  extend fragment_content (attribute q v) t r = absurd t
  extend fragment_content (characters v) t r = absurd t
  extend fragment_content (comment x) t (between es) = between (Elements.a_comment x t es)
  extend fragment_content (comment x) t (no_fragment f) = no_fragment f
  extend fragment_content (instruction x y) t (between es) = between (Elements.an_instruction x y t es)
  extend fragment_content (instruction x y) t (no_fragment f) = no_fragment f
  extend (start_tag q outer) start_document t r = absurd t
  extend (start_tag q outer) end_document t r = absurd t
  extend (start_tag q outer) end_element t r = in_tag (no_more Content.nothing) r
  extend (start_tag q outer) (start_element p) t (in_tag i r) = rest-tag (rest-child p i r)
  extend (start_tag q outer) (attribute p v) t (in_tag i r) = in_tag (an_attribute p v i) r
  extend (start_tag q outer) (characters v) t (in_element c r) = in_tag (no_more (some_characters v c)) r
  extend (start_tag q outer) (comment x) t (in_element c r) = in_tag (no_more (Content.a_comment x t c)) r
  extend (start_tag q outer) (instruction x y) t (in_element c r) = in_tag (no_more (Content.an_instruction x y t c)) r
  extend (element_content q outer) start_document t r = absurd t
  extend (element_content q outer) end_document t r = absurd t
  extend (element_content q outer) end_element t r = in_element Content.nothing r
  extend (element_content q outer) (start_element p) t (in_tag i r) = rest-child p i r
  extend (element_content q outer) (attribute p v) t r = absurd t
  extend (element_content q outer) (characters v) t (in_element c r) = in_element (some_characters v c) r
  extend (element_content q outer) (comment x) t (in_element c r) = in_element (Content.a_comment x t c) r
  extend (element_content q outer) (instruction x y) t (in_element c r) = in_element (Content.an_instruction x y t c) r
  extend doc_end start_document t r = absurd t
  extend doc_end end_document t none = behind Misc.nothing
  extend doc_end end_element t r = absurd t
  extend doc_end (start_element q) t r = absurd t
  extend doc_end (attribute q v) t r = absurd t
  extend doc_end (characters v) t r = absurd t
  extend doc_end (comment x) t (behind n) = behind (Misc.a_comment x t n)
  extend doc_end (instruction x y) t (behind n) = behind (Misc.an_instruction x y t n)
  extend finished e t r = absurd t

  rest-of-run : {st : State} {l : List (Event Text)} → Run s st l → Rest s st l
  rest-of-run stop = none
  rest-of-run (go {st} e t r) = extend st e t (rest-of-run r)

  document-of-rest : {l : List (Event Text)} → Rest s document l → Document s l
  document-of-rest (whole d) = d

-- Such a run is a well-formed list.
pub document-of-run : (s : Settings) (l : List (Event Text)) → Run s document l → Document s l
document-of-run s l r = document-of-rest (rest-of-run r)
