-- The sources of events, one for each context.
use Rattle.std.proofs.Common.{◌≡◌, ◌∙◌, inl, inr, ap, sym, refl, ℕ, ◌+◌, List, [], ◌∷◌, ◌++◌, length, map, Option, Some, arith}
use Rattle.std.specs.List.{range_with_len}
use Rattle.std.proofs.lemmas.List.{length-map, map-append}
use Rattle.std.proofs.lemmas.List.FromFn.{map-range_with_len_more, length-map-range_with_len}
use Rattle.nt_outside.specs.Source.{SourceState}
use Rattle.nt_contexts.specs.Contexts.{TellTexts}
use Rattle.nt_draws.specs.Lines.{events_text}
use Rattle.nt_draws.specs.Source.{state_of}
use Rattle.nt_draws.specs.declared.source.EventSource.{EventSource}
use Rattle.nt_draws.specs.declared.making.Making.{Making}
use Rattle.nt_store.specs.Worlds.{SomeFailed}
use Rattle.nt_generate.specs.Made.{made_texts}

-- the sources of the first contexts
abbrev pub TellFirst : Making → ℕ → List EventSource → Type 0
TellFirst m contexts sources =
    TellTexts (map state_of sources) (map (events_text m.events) (range_with_len m.seed contexts))

-- and of one more
pub told_more : (m : Making) (contexts : ℕ) (sources : List EventSource) (source : EventSource) → TellFirst m contexts sources
    → (state_of source).left ≡ Some (events_text m.events (m.seed + contexts)) → TellFirst m (contexts + 1) (sources ++ source ∷ [])
told_more m contexts sources source are is =
    ap (map (λ (s : SourceState). s.left)) (map-append state_of sources (source ∷ []))
    ∙ map-append (λ (s : SourceState). s.left) (map state_of sources) (state_of source ∷ [])
    ∙ ap (λ (l : List (Option (List ℕ))). l ++ (state_of source).left ∷ []) are
    ∙ ap
    (λ (o : Option (List ℕ)). map (λ (text : List ℕ). Some text) (map (events_text m.events) (range_with_len m.seed contexts)) ++ o ∷ [])
    is
    ∙ sym (map-append (λ (text : List ℕ). Some text) (map (events_text m.events) (range_with_len m.seed contexts))
    (events_text m.events (m.seed + contexts) ∷ []))
    ∙ ap (map (λ (text : List ℕ). Some text))
    (sym (map-range_with_len_more (events_text m.events) m.seed contexts (m.seed + contexts) refl))

-- there are as many sources as texts
pub told_counted : (sources : List SourceState) (texts : List (List ℕ)) → TellTexts sources texts → length sources ≡ length texts
told_counted sources texts tell =
    sym (length-map sources (λ (s : SourceState). s.left)) ∙ ap length tell ∙ length-map texts (λ (text : List ℕ). Some text)

-- and as many texts as contexts
pub made_counted : (m : Making) → length (made_texts m) ≡ m.contexts
made_counted m = length-map-range_with_len (events_text m.events) m.seed m.contexts

-- a source of events never fails
pub none_failed : (sources : List EventSource) → SomeFailed (map state_of sources) → ⊥
none_failed [] failed = failed
none_failed (source ∷ sources) (inl some) = absurd (omega (arith, some))
none_failed (source ∷ sources) (inr some) = none_failed sources some
