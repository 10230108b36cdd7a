-- What was asked for, joined, and the counts of a host.
use Rattle.std.proofs.Common.{◌≡◌, ◌⊎◌, ◌∙◌, inl, inr, ap, sym, refl, ℕ, suc, ◌<◌, ◌≤◌, List, [], ◌∷◌, ◌++◌, length, map, take, drop}
use Rattle.std.proofs.Common.{Option, Some, None, Result, Ok, Err, append_assoc, arith}
use Rattle.std.specs.Prelude.{IsErrOf, IsSome, IsOk}
use Rattle.std.proofs.lemmas.List.{append-nil, take-append-drop}
use Rattle.std.proofs.Math.Seq.{take-append_seam}
use Rattle.nt_types.specs.ShapeData.{MemberData}
use Rattle.nt_types.specs.Schema.{schema_text}
use Rattle.nt_outside.specs.declared.fault.Refused.{Refused}
use Rattle.nt_outside.specs.declared.fault.Refused.TheVariants as refused
use Rattle.nt_outside.specs.Faults.{Rose, TakesIn}
use Rattle.nt_outside.specs.Source.{SourceState}
use Rattle.nt_outside.specs.World.{World, Asked, Text, Out, file}
use Rattle.nt_contexts.specs.Contexts.{TellTexts}
use Rattle.nt_store.specs.declared.error.StoreError.{StoreError}
use Rattle.nt_store.specs.declared.error.StoreError.TheVariants.{Outside}
use Rattle.nt_store.specs.Stored.{asked_for}
use Rattle.nt_store.specs.Worlds.{IsThereWith, AsksFirst, AsksFor, HasStoreCause, AreOpenTexts}

-- the first objects were asked for
pub asks_front : (old new objects front rest : List Asked) → new ≡ old ++ front → objects ≡ front ++ rest → AsksFirst objects old new
asks_front old new objects front rest is objects-are = (
  length front,
  is ∙ ap (λ (l : List Asked). old ++ l) (sym (ap (λ (l : List Asked). take (length front) l) objects-are
      ∙ take-append_seam front rest)),
)

-- all of them were
pub asks_all : {T E : Type 0} (result : Result T E) (old new objects : List Asked) → new ≡ old ++ objects → AsksFor objects old new result
asks_all (Ok value) old new objects is = is
asks_all (Err e) old new objects is = asks_front old new objects objects [] is (sym (append-nil objects))

module _ (out schema : List ℕ) (inputs : List (List ℕ)) (old : List Asked) where
  abbrev one : List Asked
  one = Text schema ∷ []

  abbrev texts : List Asked
  texts = map Text inputs

  abbrev last : List Asked
  last = Out out ∷ []

  -- the schema text alone, or nothing
  pub schema_asked : (new : List Asked) → AsksFirst one old new → AsksFirst (asked_for out schema inputs) old new
  schema_asked new (n, is) =
      asks_front old new (asked_for out schema inputs) (take n one) (drop n one ++ (texts ++ last)) is
      (ap (λ (l : List Asked). l ++ (texts ++ last)) (sym (take-append-drop n one))
      ∙ append_assoc (take n one) (drop n one) (texts ++ last))

  -- it, and the first inputs
  pub texts_asked : (mid new : List Asked) → mid ≡ old ++ one → AsksFirst texts mid new → AsksFirst (asked_for out schema inputs) old new
  texts_asked mid new first (n, is) =
      asks_front old new (asked_for out schema inputs) (one ++ take n texts) (drop n texts ++ last)
      (is ∙ (ap (λ (l : List Asked). l ++ take n texts) first ∙ append_assoc old one (take n texts)))
      (ap (λ (l : List Asked). one ++ l) (ap (λ (l : List Asked). l ++ last) (sym (take-append-drop n texts))
      ∙ append_assoc (take n texts) (drop n texts) last))

  both : (mid opened : List Asked) → mid ≡ old ++ one → opened ≡ mid ++ texts → opened ≡ old ++ (one ++ texts)
  both mid opened first second = second ∙ (ap (λ (l : List Asked). l ++ texts) first ∙ append_assoc old one texts)

  every : (mid opened made : List Asked) → mid ≡ old ++ one → opened ≡ mid ++ texts → made ≡ opened ++ last
      → made ≡ old ++ asked_for out schema inputs
  every mid opened made first second third =
      third ∙ (ap (λ (l : List Asked). l ++ last) (both mid opened first second) ∙ append_assoc old (one ++ texts) last)

  -- all of them
  pub all_asked : (result : Result Unit StoreError) (mid opened made new : List Asked) → mid ≡ old ++ one → opened ≡ mid ++ texts
      → made ≡ opened ++ last → new ≡ made
      → AsksFor (asked_for out schema inputs) old new result
  all_asked result mid opened made new first second third same =
      asks_all result old new (asked_for out schema inputs) (same ∙ every mid opened made first second third)

  -- the disk was refused
  pub disk_refused : (T : Type 0) (r : Refused) (mid opened made new : List Asked) → mid ≡ old ++ one → opened ≡ mid ++ texts
      → (IsErrOf {T = T} (Err r) refused.Failed → made ≡ opened ++ last) → (IsErrOf {T = T} (Err r) refused.Memory
      → (made ≡ opened) ⊎ (made ≡ opened ++ last)) → new ≡ made
      → AsksFirst (asked_for out schema inputs) old new
  disk_refused T refused.Failed mid opened made new first second failed memory same =
      asks_front old new (asked_for out schema inputs) (asked_for out schema inputs) [] (same
      ∙ every mid opened made first second (failed refl)) (sym (append-nil (asked_for out schema inputs)))
  disk_refused T refused.Memory mid opened made new first second failed memory same = elim (memory refl) [
    | inl stays ↦ asks_front old new (asked_for out schema inputs) (one ++ texts) last (same ∙ (stays ∙ both mid opened first second)) refl
    | inr asked ↦
        asks_front old new (asked_for out schema inputs) (asked_for out schema inputs) [] (same
        ∙ every mid opened made first second asked) (sym (append-nil (asked_for out schema inputs)))
  ]

-- a text whose fields are these is a schema
pub is_schema : (found : Option (List ℕ)) (fields : List MemberData) → IsThereWith (λ text. schema_text text ≡ Ok fields) found
    → IsThereWith (λ text. IsOk (schema_text text)) found
is_schema None fields there = there
is_schema (Some text) fields there = rw there refl

there_is : (found : Option (List ℕ)) → IsSome found → (text : List ℕ) × (found ≡ Some text)
there_is None some = absurd (cc some)
there_is (Some text) some = (text, refl)

-- the texts of inputs that are open
pub record AreTold (w : World) (names : List (List ℕ)) (states : List SourceState) : Type 0 where
  pub texts : List (List ℕ)
  pub tell : TellTexts states texts
  pub are : map (file w) names ≡ map (λ (text : List ℕ). Some text) texts

pub texts_told : (w : World) (world : Option World) (names : List (List ℕ)) (states : List SourceState) → world ≡ Some w
    → AreOpenTexts world names states → AreTold w names states
texts_told w world [] [] is are = record { texts = []; tell = refl; are = refl }
texts_told w world [] (s ∷ states) is are = absurd are
texts_told w world (name ∷ names) [] is are = absurd are
texts_told w world (name ∷ names) (s ∷ states) is are =
    let opened = are.0.left w is in
    let text = there_is (file w name) opened.0 in
    let others = texts_told w world names states is are.1 in
    record {
      texts = text.0 ∷ others.texts;
      tell = both_are s.left (Some text.0) _ _ (opened.1 ∙ text.1) others.tell;
      are = both_are (file w name) (Some text.0) _ _ text.1 others.are;
    }
  where
    both_are : (a b : Option (List ℕ)) (xs ys : List (Option (List ℕ))) → a ≡ b → xs ≡ ys → a ∷ xs ≡ b ∷ ys
    both_are a b xs ys first rest = ap (λ (x : Option (List ℕ)). x ∷ xs) first ∙ ap (λ (l : List (Option (List ℕ))). b ∷ l) rest

-- as many as names
pub texts_counted : (world : Option World) (names : List (List ℕ)) (states : List SourceState) → AreOpenTexts world names states
    → length states ≡ length names
texts_counted world [] [] are = refl
texts_counted world [] (s ∷ states) are = absurd are
texts_counted world (name ∷ names) [] are = absurd are
texts_counted world (name ∷ names) (s ∷ states) are = ap suc (texts_counted world names states are.1)

-- an error of this kind, whatever might have come in its place
pub same_error : {T S E : Type 0} (e x : E) → IsErrOf {T = T} (Err e) x → IsErrOf {T = S} (Err e) x
same_error e x is = cc

-- the first call failed
pub cause_first : {T S : Type 0} (e : StoreError) (old new : ℕ) → HasStoreCause {T = T} old new (Err e)
    → HasStoreCause {T = S} old new (Err e)
cause_first e old new cause = record { later = cause.later; failed = λ is. cause.failed (same_error e Outside is) }

-- or the one behind it
pub cause_next : {T S : Type 0} (e : StoreError) (old mid new : ℕ) → old ≤ mid → HasStoreCause {T = T} mid new (Err e)
    → HasStoreCause {T = S} old new (Err e)
cause_next e old mid new later cause = record {
  later = omega (arith, later, cause.later);
  failed = λ is.
      let rose = cause.failed (same_error e Outside is) in
      omega (arith, rose, later);
}

is_outside : (result : Result Unit StoreError) → IsErrOf result Outside → result ≡ Err Outside
is_outside (Ok value) is = absurd (cc is)
is_outside (Err e) is = cc

-- the count once the disk is back
pub cause_back : (old mid written new disk : ℕ) (result : Result Unit StoreError) → old ≤ mid → mid ≤ written → TakesIn written new disk
    → (result ≡ Err Outside → (0 < disk) ⊎ Rose mid written) → HasStoreCause old new result
cause_back old mid written new disk result first second taken failed = record {
  later = omega (arith, first, second, taken.later);
  failed = λ is. elim (failed (is_outside result is)) [
    | inl some ↦ omega (arith, first, second, taken.sum, some)
    | inr rose ↦ omega (arith, first, second, taken.later, rose)
  ];
}
