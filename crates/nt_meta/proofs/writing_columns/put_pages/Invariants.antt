use Rattle.std.proofs.Common.{◌≡◌, ◌+◌, ◌<◌, ◌^◌, map, drop}
use Rattle.std.specs.List.{AllByRecursion}
use Rattle.nt_frame.specs.Writing.{bytes_added}
use Rattle.nt_pagelists.specs.Writing.{page_item_texts}
use Rattle.nt_pagelists.specs.Books.{page_item}
use Rattle.nt_meta.proofs.writing_columns.put_pages.Given as goal

-- what is left, written behind what is there, gives what all gives
abbrev pub invariant-loop-page : goal.invariant-loop-page
invariant-loop-page l = record {
  low : AllByRecursion (λ p. l.payload + p.place < 2 ^ 64) (drop l.page-index l.pages);
  written : bytes_added (page_item_texts (map (page_item l.payload) (drop l.page-index l.pages))) l.out
      ≡ bytes_added (page_item_texts (map (page_item l.payload) l.pages)) l.initial.out;
}
