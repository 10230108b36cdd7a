-- The steps in which an outline is read, as the calls that make them answer.
use Rattle.std.proofs.Common.{◌≡◌, ℕ, List, ◌∷◌, ◌++◌, length, Result, Ok, Err, refl, sym, ap, subst, ◌∙◌, inl, inr}
use Rattle.std.proofs.lemmas.List.{append_assoc}
use Rattle.nt_num.specs.declared.fault.ReadError.{ReadError}
use Rattle.nt_lists.specs.Chaining.{◌>>=◌}
use Rattle.nt_lists.specs.Answering.{Refuses}
use Rattle.nt_lists.proofs.Variants.{ok_is}
use Rattle.nt_format.specs.Reading.{standing}
use Rattle.nt_container.specs.declared.anchor.Anchor.{Anchor}
use Rattle.nt_container.specs.Anchors.{anchor_of}
use Rattle.nt_grammar.specs.Table.{Table}
use Rattle.nt_meta.specs.Defects.{defect_of}
use Rattle.nt_meta.specs.declared.error.MetaError.{MetaError}
use Rattle.nt_meta.specs.declared.error.MetaError.TheVariants as payload
use Rattle.nt_pagelists.specs.declared.group.Group.{Group}
use Rattle.nt_pagelists.specs.declared.column.KnownColumn.{KnownColumn}
use Rattle.nt_pagelists.specs.declared.cluster.ClusterList.{ClusterList}
use Rattle.nt_pagelists.specs.PageLists.{ProgressCounts, page_list_at}
use Rattle.nt_tfile.specs.declared.failure.ReadFailure.{ReadFailure}
use Rattle.nt_tfile.specs.declared.failure.ReadFailure.TheVariants.{Defect, Fault, Memory}
use Rattle.nt_tfile.specs.Calls.{IsReadOrFails}
use Rattle.nt_file_meaning.specs.Envelopes.{Sealed, Block, header_kind, envelope_of, inside_of}
use Rattle.nt_pagelists.specs.Objects.{page_list_kind}
use Rattle.nt_file_meaning.specs.Headers.{header_payload_at}
use Rattle.nt_file_meaning.specs.Outlines.{Outline, header_block, list_block, known_columns, no_progress, clusters_of_block, group_clusters}
use Rattle.nt_file_meaning.specs.Outlines.{groups_clusters, described_of, outline_of}
use Rattle.nt_listing.proofs.Chains.{fails, fails-as}
use Rattle.nt_reader.specs.Failures.{IsInPayload}
use Rattle.nt_reader.specs.Steps.{header_said, footer_said, clusters_with, clusters_behind}

-- what reads one reads another that is the same
pub reads-as : {V W : Type 0} (view : V → W) (r : Result V ReadFailure) (s t : Result W ReadError) → s ≡ t → IsReadOrFails view r t
    → IsReadOrFails view r s
reads-as {W = W} view r s t is h = subst (λ (x : Result W ReadError). IsReadOrFails view r x) (sym is) h

-- what fails inside of an envelope fails in all
pub inside-fails : {V W X : Type 0} (all : W → X) (block : Block) (r : Result V ReadError) (f : V
    → Result X ReadError) (e : MetaError) (failure : ReadFailure)
    → Refuses (defect_of e) r → IsInPayload block.place e failure → IsReadOrFails all (Err failure) (inside_of block r >>= f)
inside-fails {V = V} {X = X} all block r f (payload.Defect d) failure h (inl is) =
    subst (λ (x : ReadFailure). IsReadOrFails all (Err x) (inside_of block r >>= f)) (sym is)
    (ap (λ (s : Result V ReadError). inside_of block s >>= f) h)
inside-fails all block r f (payload.Defect d) failure h (inr (far, is)) = subst
    (λ (x : ReadFailure). IsReadOrFails all (Err x) (inside_of block r >>= f)) (sym is) tt
inside-fails all block r f payload.Memory failure h is = subst (λ (x : ReadFailure). IsReadOrFails all (Err x) (inside_of block r >>= f))
    (sym is) tt

-- what follows an envelope that was read
opened : {X : Type 0} (told : List ℕ) (kind : ℕ) (block same : Block) (is : Sealed) (f : Sealed → Result X ReadError) → same ≡ block
    → envelope_of told kind same ≡ Ok is
    → (envelope_of told kind block >>= f) ≡ f is
opened told kind block same is f named e = ap (λ (b : Block). envelope_of told kind b >>= f) (sym named)
    ∙ ap (λ (r : Result Sealed ReadError). r >>= f) e

-- an envelope that is read, and its payload, which is read then: where both give something
pub opened-read : {V X : Type 0} (told : List ℕ) (kind : ℕ) (block same : Block) (is : Sealed) (text : List ℕ) (read : List ℕ
    → Result V ReadError)
    (next : Sealed → V → Result X ReadError) (value : V) → same ≡ block → envelope_of told kind same ≡ Ok is → text ≡ is.payload
    → read text ≡ Ok value
    → (envelope_of told kind block >>= λ s. inside_of block (read s.payload) >>= next s) ≡ next is value
opened-read {V = V} told kind block same is text read next value named e there h =
    opened told kind block same is (λ s. inside_of block (read s.payload) >>= next s) named e
    ∙ ap (λ (r : Result V ReadError). inside_of block r >>= next is) (ap read (sym there) ∙ h)

-- where the envelope gives nothing
pub opened-fails : {V W X : Type 0} (all : W → X) (told : List ℕ) (kind : ℕ) (block same : Block) (read : List ℕ → Result V ReadError)
    (next : Sealed → V → Result X ReadError) (e : ReadFailure) → same ≡ block
    → IsReadOrFails {V = Sealed} (λ s. s) (Err e) (envelope_of told kind same)
    → IsReadOrFails all (Err e) (envelope_of told kind block >>= λ s. inside_of block (read s.payload) >>= next s)
opened-fails all told kind block same read next e named h =
    fails {U = Sealed} (λ s. s) all e (envelope_of told kind block) _
    (subst (λ (b : Block). IsReadOrFails {V = Sealed} (λ s. s) (Err e) (envelope_of told kind b)) named h)

-- where its payload gives nothing
pub payload-fails : {V W X : Type 0} (all : W → X) (told : List ℕ) (kind : ℕ) (block same : Block) (is : Sealed) (text : List ℕ)
    (read : List ℕ → Result V ReadError)
    (next : Sealed → V → Result X ReadError) (e : MetaError) (failure : ReadFailure) → same ≡ block → envelope_of told kind same ≡ Ok is
    → text ≡ is.payload
    → Refuses (defect_of e) (read text) → IsInPayload block.place e failure
    → IsReadOrFails all (Err failure) (envelope_of told kind block >>= λ s. inside_of block (read s.payload) >>= next s)
payload-fails all told kind block same is text read next e failure named done there h inside =
    fails-as all all failure (inside_of block (read is.payload) >>= next is) _
    (opened told kind block same is (λ s. inside_of block (read s.payload) >>= next s) named done)
    (inside-fails all block (read is.payload) (next is) e failure (subst (λ (l : List ℕ). Refuses (defect_of e) (read l)) there h) inside)

-- steps that are one
split : {A B C D : Type 0} (r : Result A ReadError) (f : A → Result B ReadError) (k : A → B → C) (g : C → Result D ReadError)
    → (r >>= λ x. f x >>= λ y. g (k x y)) ≡ ((r >>= λ x. f x >>= λ y. Ok (k x y)) >>= g)
split (Ok x) f k g = inner (f x)
  where
    inner : (s : Result _ ReadError) → (s >>= λ y. g (k x y)) ≡ ((s >>= λ y. Ok (k x y)) >>= g)
    inner (Ok y) = refl
    inner (Err e) = refl
split (Err e) f k g = refl

-- what header and footer describe, in two steps
described-steps : (told : List ℕ) (a : Anchor) → described_of told a ≡ (header_said a told >>= λ first. footer_said a first told)
unfolding described_of
described-steps told a =
    split (envelope_of told header_kind (header_block a)) (λ header. inside_of (header_block a)
    (header_payload_at (standing 0 header.payload)))
    (λ header first. (first, header.sum)) (λ first. footer_said a first told)

pub first-fails : {W : Type 0} (all : W → Table × List Group × ℕ) (told : List ℕ) (a : Anchor) (e : ReadFailure) {U : Type 0} (one : U
    → Table × ℕ)
    → IsReadOrFails one (Err e) (header_said a told) → IsReadOrFails all (Err e) (described_of told a)
first-fails all told a e one h = fails-as all all e _ _ (described-steps told a)
    (fails one all e (header_said a told) (λ first. footer_said a first told) h)

pub first-done : (told : List ℕ) (a : Anchor) (first : Table × ℕ) → header_said a told ≡ Ok first
    → described_of told a ≡ footer_said a first told
first-done told a first h = described-steps told a ∙ ap (λ (r : Result (Table × ℕ) ReadError). r >>= λ first. footer_said a first told) h

-- the clusters of a group behind others, in the steps in which they are read
pub group-read : (told : List ℕ) (sum : ℕ) (columns : List KnownColumn) (g : Group) (p : ProgressCounts) (before : List ClusterList)
    → clusters_with sum columns g p before told
    ≡ (envelope_of told page_list_kind (list_block g.link) >>= λ list. inside_of (list_block g.link)
    (page_list_at sum g columns p (standing 0 list.payload))
    >>= λ read. Ok (before ++ clusters_of_block (list_block g.link) read.0, read.1))
unfolding group_clusters
group-read told sum columns g p before =
    sym (split (envelope_of told page_list_kind (list_block g.link))
    (λ list. inside_of (list_block g.link) (page_list_at sum g columns p (standing 0 list.payload)))
    (λ list read. (clusters_of_block (list_block g.link) read.0, read.1))
    (λ (read : List ClusterList × ProgressCounts). Ok (before ++ read.0, read.1)))

-- others behind these, behind those
joined : {A : Type 0} (r : Result (List A) ReadError) (xs ys : List A)
    → ((r >>= λ o. Ok (ys ++ o)) >>= λ o. Ok (xs ++ o)) ≡ (r >>= λ o. Ok ((xs ++ ys) ++ o))
joined (Ok o) xs ys = ap (λ (l : _). Ok l) (sym (append_assoc xs ys o))
joined (Err e) xs ys = refl

abbrev grown : List ClusterList → List ClusterList × ProgressCounts → Result (List ClusterList × ProgressCounts) ReadError
grown before read = Ok (before ++ read.0, read.1)

-- the clusters of one group more
pub clusters-more : (told : List ℕ) (sum : ℕ) (columns : List KnownColumn) (g : Group) (gs : List Group) (p q : ProgressCounts)
    (before all : List ClusterList)
    → clusters_with sum columns g p before told ≡ Ok (all, q)
    → clusters_behind sum columns (g ∷ gs) p before told ≡ clusters_behind sum columns gs q all told
clusters-more told sum columns g gs p q before all h = by (group_clusters told sum columns g p) h
  where
    by : (r : Result (List ClusterList × ProgressCounts) ReadError) → (r >>= grown before) ≡ Ok (all, q)
        → ((r >>= λ first. groups_clusters told sum columns gs first.1 >>= λ others. Ok (first.0 ++ others)) >>= λ others. Ok
        (before ++ others))
        ≡ clusters_behind sum columns gs q all told
    by (Ok read) e =
        let pair = ok_is {E = ReadError} (before ++ read.0, read.1) (all, q) e in
        let is : before ++ read.0 ≡ all = ap (λ (x : List ClusterList × ProgressCounts). x.0) pair in
        let next : read.1 ≡ q = ap (λ (x : List ClusterList × ProgressCounts). x.1) pair in
        joined (groups_clusters told sum columns gs read.1) before read.0
        ∙ ap (λ (l : List ClusterList). groups_clusters told sum columns gs read.1 >>= λ others. Ok (l ++ others)) is
        ∙ ap (λ (s : ProgressCounts). groups_clusters told sum columns gs s >>= λ others. Ok (all ++ others)) next
    by (Err e) h = absurd cc

-- one group that fails
pub clusters-fail : {U W : Type 0} (one : U → List ClusterList × ProgressCounts) (view : W
    → List ClusterList) (told : List ℕ) (sum : ℕ) (columns : List KnownColumn) (g : Group) (gs : List Group)
    (p : ProgressCounts) (before : List ClusterList) (e : ReadFailure)
    → IsReadOrFails one (Err e) (clusters_with sum columns g p before told)
    → IsReadOrFails view (Err e) (clusters_behind sum columns (g ∷ gs) p before told)
clusters-fail one view told sum columns g gs p before (Defect d) h = by (group_clusters told sum columns g p) h
  where
    by : (r : Result (List ClusterList × ProgressCounts) ReadError) → (r >>= grown before) ≡ Err d
        → ((r >>= λ first. groups_clusters told sum columns gs first.1 >>= λ others. Ok (first.0 ++ others)) >>= λ others. Ok
        (before ++ others)) ≡ Err d
    by (Ok read) e = absurd cc
    by (Err e) h = cc
clusters-fail one view told sum columns g gs p before Fault h = tt
clusters-fail one view told sum columns g gs p before Memory h = tt

-- the outline in its steps
after_anchor : Anchor → List ℕ → Result Outline ReadError
after_anchor a told =
    described_of told a >>= λ said. groups_clusters told said.2 (known_columns said.0) said.1 (no_progress (length said.0.columns))
    >>= λ clusters. Ok (record { table = said.0; clusters = clusters })

outline-after : (told : List ℕ) (a : Anchor) → anchor_of told ≡ Ok a → outline_of told ≡ after_anchor a told
unfolding outline_of after_anchor
outline-after told a e = rw e refl

pub anchor-fails : {W : Type 0} (all : W → Outline) (told : List ℕ) (e : ReadFailure)
    → IsReadOrFails {V = Anchor} (λ a. a) (Err e) (anchor_of told) → IsReadOrFails all (Err e) (outline_of told)
unfolding outline_of
anchor-fails all told e h = fails {U = Anchor} (λ a. a) all e (anchor_of told) _ h

pub described-fails : {U W : Type 0} (one : U → Table × List Group × ℕ) (all : W → Outline) (told : List ℕ) (a : Anchor) (e : ReadFailure)
    → anchor_of told ≡ Ok a
    → IsReadOrFails one (Err e) (described_of told a) → IsReadOrFails all (Err e) (outline_of told)
unfolding after_anchor
described-fails one all told a e found h = fails-as all all e (after_anchor a told) _ (outline-after told a found)
    (fails one all e (described_of told a) _ h)

described-after : (told : List ℕ) (a : Anchor) (said : Table × List Group × ℕ) → described_of told a ≡ Ok said
    → after_anchor a told
    ≡ (groups_clusters told said.2 (known_columns said.0) said.1 (no_progress (length said.0.columns)) >>= λ clusters. Ok
    (record { table = said.0; clusters = clusters }))
unfolding after_anchor
described-after told a said e = rw e refl

pub clusters-fails : {U W : Type 0} (one : U → List ClusterList) (all : W
    → Outline) (told : List ℕ) (a : Anchor) (said : Table × List Group × ℕ) (e : ReadFailure) → anchor_of told ≡ Ok a
    → described_of told a ≡ Ok said → IsReadOrFails one (Err e)
    (groups_clusters told said.2 (known_columns said.0) said.1 (no_progress (length said.0.columns)))
    → IsReadOrFails all (Err e) (outline_of told)
clusters-fails one all told a said e found is h =
    fails-as all all e _ _ (outline-after told a found ∙ described-after told a said is)
    (fails one all e (groups_clusters told said.2 (known_columns said.0) said.1 (no_progress (length said.0.columns)))
    (λ clusters. Ok (record { table = said.0; clusters = clusters })) h)

pub outline-done : (told : List ℕ) (a : Anchor) (said : Table × List Group × ℕ) (clusters : List ClusterList) → anchor_of told ≡ Ok a
    → described_of told a ≡ Ok said
    → groups_clusters told said.2 (known_columns said.0) said.1 (no_progress (length said.0.columns)) ≡ Ok clusters
    → outline_of told ≡ Ok (record { table = said.0; clusters = clusters })
outline-done told a said clusters found is h = outline-after told a found ∙ described-after told a said is
    ∙ ap (λ (r : Result (List ClusterList) ReadError). r >>= λ ks. Ok (record { table = said.0; clusters = ks })) h
