-- The image of a cluster that is committed, and the key that it gets.
use Rattle.std.specs.Prelude.{◌≡◌, ℕ, ◌-◌, ◌≤◌, [], ◌++◌, length, drop, Result, Ok, Err}
use Rattle.nt_outside.specs.Range.{ExtState}
use Rattle.nt_container.specs.Spelling.{blob_key}
use Rattle.nt_book.specs.Pages.{IsPaged}
use Rattle.nt_pages.specs.declared.image.ClusterImage.{ClusterImage}
use Rattle.nt_pages.specs.Image.{key_room}
use Rattle.nt_commit.specs.declared.claim.Claim.{Claim}
use Rattle.nt_commit.specs.declared.error.CommitError.{CommitError}

-- the image of a cluster of this context: it has room for its key, and a list of pages for each column
pub record IsImageFor (columns context : ℕ) (image : ClusterImage) : Type 0 where
  pub context_is : image.meta.context ≡ context
  pub whole : image.meta.len ≡ length image.bytes
  pub room : key_room ≤ image.meta.len
  pub lists : length image.meta.pages ≡ columns
  pub paged : IsPaged image.meta

-- with the key of a blob that starts there, its pages moved out
abbrev pub with_key : ClusterImage → ℕ → ClusterImage
with_key image start =
    record { bytes = blob_key (length image.bytes - key_room) start ++ drop key_room image.bytes; meta = record image.meta { pages = [] } }

-- the image after an answer: with the key of the claim's place, or as it was
abbrev pub image_after : {X : Type 0} → (X → ExtState) → ClusterImage → Result (Claim X) CommitError → ClusterImage
image_after tell image (Ok claim) = with_key image (tell claim.ext).range.start
image_after tell image (Err e) = image
