-- What is written of groups is read back.
use Rattle.std.proofs.Common.{◌≡◌, ℕ, suc, ◌+◌, ◌<◌, ◌^◌, true, false, leb, ltb, eqb, List, [], ◌∷◌, ◌++◌, length, Result, Ok, refl, sym}
use Rattle.std.proofs.Common.{ap, subst, ◌∙◌, append_assoc, eq-eqb, arith}
use Rattle.std.specs.Int.{w32, w64, to_le_bytes}
use Rattle.std.proofs.lemmas.Bool.{lt-leb, lt-ltb}
use Rattle.std.proofs.lemmas.List.{append-nil, length-append}
use Rattle.nt_num.specs.Place.{At}
use Rattle.nt_num.specs.declared.fault.ReadError.{ReadError}
use Rattle.nt_lists.specs.Chaining.{◌>>=◌}
use Rattle.nt_format.specs.Reading.{standing, ReadsAs}
use Rattle.nt_format.specs.Frames.{list_frame, record_at, list_at}
use Rattle.nt_format.proofs.Chains.{alone}
use Rattle.nt_format.proofs.Placed.{u32_at, u64_at, u32-reads, u64-reads}
use Rattle.nt_format.proofs.Frames.{record_again}
use Rattle.nt_pagelists.specs.declared.group.Group.{Group}
use Rattle.nt_format.specs.Locators.{link, IsLink}
use Rattle.nt_format.specs.declared.locator.Link.{Link}
use Rattle.nt_pagelists.specs.ClusterGroups.{minimum_entry_at, entry_span_at, cluster_count_at, group_link_at, group_at, groups_on}
use Rattle.nt_pagelists.specs.ClusterGroups.{groups_at}
use Rattle.nt_pagelists.specs.FooterWriting.{group_text, group_texts}
use Rattle.nt_pagelists.specs.ReadingBack.{IsGroup, AreGroups}
use Rattle.nt_pagelists.proofs.Parts.{list-reads}

minimum-reads : (entries frame : ℕ) → entries < 2 ^ 64 → ReadsAs (minimum_entry_at entries frame) (to_le_bytes w64 entries) entries
unfolding minimum_entry_at u64_at
minimum-reads entries frame fits place rest =
    let same : eqb entries entries ≡ true = eq-eqb _ _ refl in
    rw (u64-reads entries fits place rest, same) refl

span-reads : (entries frame span : ℕ) → entries + span < 2 ^ 64 → ReadsAs (entry_span_at entries frame) (to_le_bytes w64 span) span
unfolding entry_span_at u64_at
span-reads entries frame span fits place rest =
    let low : ltb (entries + span) (2 ^ 64) ≡ true = lt-ltb _ _ fits in
    rw (u64-reads span (omega arith) place rest, low) refl

count-reads : (clusters frame count : ℕ) → clusters + count < 2 ^ 32
    → ReadsAs (cluster_count_at clusters frame) (to_le_bytes w32 count) count
unfolding cluster_count_at u32_at
count-reads clusters frame count fits place rest =
    let low : ltb (clusters + count) (2 ^ 32) ≡ true = lt-ltb _ _ fits in
    rw (u32-reads count (omega arith) place rest, low) refl

link-chain : (frame long size at : ℕ) (a b c : List ℕ) (place : ℕ) (rest : List ℕ) → size < 2 ^ 31 → ReadsAs u64_at a long
    → ReadsAs u32_at b size → ReadsAs u64_at c at
    → group_link_at frame (standing place (a ++ (b ++ (c ++ rest)))) ≡ Ok (
      record {
        length = long;
        at = record { size = size; place = at };
      },
      standing (place + length a + length b + length c) rest,
    )
unfolding group_link_at u32_at u64_at
link-chain frame long size at a b c place rest small p q r =
    let simple : leb (2 ^ 31) size ≡ false = lt-leb _ _ small in
    rw (p place (b ++ (c ++ rest)), q (place + length a) (c ++ rest), simple, r (place + length a + length b) rest) refl

link-reads : (frame : ℕ) (l : Link) → IsLink l → ReadsAs (group_link_at frame) (link l) l
link-reads frame l is place rest =
    let a = to_le_bytes w64 l.length in
    let b = to_le_bytes w32 l.at.size in
    let c = to_le_bytes w64 l.at.place in
    let grouped : (a ++ (b ++ c)) ++ rest ≡ a ++ (b ++ (c ++ rest)) = simp append_assoc in
    let size : l.at.size < 2 ^ 32 = omega (arith, is.at.size) in
    let end : place + length a + length b + length c ≡ place + length (a ++ (b ++ c)) =
    omega (arith, length-append a (b ++ c), length-append b c) in
    ap (λ (x : List ℕ). group_link_at frame (standing place x)) grouped
    ∙ (link-chain frame l.length l.at.size l.at.place a b c place rest is.at.size (u64-reads l.length is.length)
    (u32-reads l.at.size size) (u64-reads l.at.place is.at.place)
    ∙ ap (λ (n : ℕ). Ok (l, standing n rest)) end)

group-chain : (entries clusters place end first span count : ℕ) (l : Link) (f a b c d rest : List ℕ)
    → record_at (standing place (f ++ rest)) ≡ Ok (standing (place + 8) (a ++ (b ++ (c ++ d))), standing end rest)
    → ReadsAs (minimum_entry_at entries place) a first → ReadsAs (entry_span_at entries place) b span
    → ReadsAs (cluster_count_at clusters place) c count → ReadsAs (group_link_at place) d l
    → group_at entries clusters (standing place (f ++ rest)) ≡ Ok (
      record {
        first = first;
        span = span;
        clusters = count;
        link = l;
      },
      standing end rest,
    )
unfolding group_at
group-chain entries clusters place end first span count l f a b c d rest frame p q r s =
    let last = alone (group_link_at place) d l s (place + 8 + length a + length b + length c) in
    rw (frame, p (place + 8) (b ++ (c ++ d)), q (place + 8 + length a) (c ++ d), r (place + 8 + length a + length b) d, last) refl

group-reads : (clusters : ℕ) (g : Group) → IsGroup g.first clusters g → ReadsAs (group_at g.first clusters) (group_text g) g
group-reads clusters g is place rest =
    let a = to_le_bytes w64 g.first in
    let b = to_le_bytes w64 g.span in
    let c = to_le_bytes w32 g.clusters in
    let inside = a ++ (b ++ (c ++ link g.link)) in
    let low : g.first < 2 ^ 64 = omega (arith, is.low) in
    let end : place + (8 + length inside) ≡ place + length (group_text g) = omega arith in
    let frame = record_again inside rest place (omega arith) ∙ ap (λ (n : ℕ). Ok (standing (place + 8) inside, standing n rest)) end in
    group-chain g.first clusters place (place + length (group_text g)) g.first g.span g.clusters g.link (group_text g) a b c
    (link g.link) rest frame
    (minimum-reads g.first place low) (span-reads g.first place g.span is.low) (count-reads clusters place g.clusters is.few)
    (link-reads place g.link is.leads)

groups-read : (entries clusters : ℕ) (gs all : List Group) → AreGroups entries clusters all
    → ReadsAs (groups_on (length all) entries clusters gs) (group_texts all) (gs ++ all)
groups-read entries clusters gs [] are place rest =
    let end : place ≡ place + 0 = omega arith in
    ap (λ (l : List Group). Ok (l, standing place rest)) (sym (append-nil gs)) ∙ ap (λ (n : ℕ). Ok (gs ++ [], standing n rest)) end
groups-read entries clusters gs (g ∷ all) are place rest =
    let is = are.0 in
    let next = place + length (group_text g) in
    let own : IsGroup g.first clusters g = subst (λ (n : ℕ). IsGroup n clusters g) (sym is.begins) is in
    let first = ap (λ (n : ℕ). group_at n clusters (standing place (group_text g ++ (group_texts all ++ rest)))) (sym is.begins)
    ∙ group-reads clusters g own place (group_texts all ++ rest) in
    let others = groups-read (entries + g.span) (clusters + g.clusters) (gs ++ g ∷ []) all are.1 next rest in
    let end : next + length (group_texts all) ≡ place + length (group_text g ++ group_texts all) =
    omega (arith, length-append (group_text g) (group_texts all)) in
    ap (λ (b : List ℕ). groups_on (suc (length all)) entries clusters gs (standing place b))
    (append_assoc (group_text g) (group_texts all) rest)
    ∙ (ap (λ (x : Result (Group × At) ReadError). x >>= λ g. groups_on (length all) (entries + g.0.span) (clusters + g.0.clusters)
    (gs ++ g.0 ∷ []) g.1) first
    ∙ (others ∙ (ap (λ (l : List Group). Ok (l, standing (next + length (group_texts all)) rest)) (append_assoc gs (g ∷ []) all)
    ∙ ap (λ (n : ℕ). Ok (gs ++ g ∷ all, standing n rest)) end)))

list-chain : (place end inner n : ℕ) (gs : List Group) (f inside rest : List ℕ) → list_at (standing place (f ++ rest))
    ≡ Ok ((n, standing (place + 12) inside), standing end rest)
    → groups_on n 0 0 [] (standing (place + 12) inside) ≡ Ok (gs, standing inner []) → groups_at (standing place (f ++ rest))
    ≡ Ok (gs, standing end rest)
unfolding groups_at
list-chain place end inner n gs f inside rest list on = rw (list, on) refl

-- a list of groups
pub group-list-reads : (gs : List Group) → AreGroups 0 0 gs → length gs < 2 ^ 32 → 12 + length (group_texts gs) < 2 ^ 63
    → ReadsAs groups_at (list_frame (length gs) (group_texts gs)) gs
group-list-reads gs are few small place rest =
    let inside = group_texts gs in
    list-chain place (place + length (list_frame (length gs) inside)) (place + 12 + length inside) (length gs) gs
    (list_frame (length gs) inside) inside rest
    (list-reads (length gs) place inside rest few small)
    (alone (groups_on (length gs) 0 0 []) inside gs (groups-read 0 0 [] gs are) (place + 12))
