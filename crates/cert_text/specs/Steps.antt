-- How the code reads a listing: a line at a time, with the sections that were closed and the one that is open. fr is a
-- frame, n the number of the line.
--   Step                          what a line adds: a table, a section with its number and component, an ending
--   listing_step fr component left   the next line of a listing, where a section of the component is open
--   grown done section rest       the sections, where these are closed, this one is open, and the rest is read behind them
--   step_of entry, listing_of listing   what the code holds
-- and as steps of these
--   added, picked
--   said fr component n listing   what a line of the listing adds, if it is in its range
--   said_table, said_spent        the same for a table and a spot that are read from the line
use Rattle.std.specs.Prelude.{ℕ, List, ◌∷◌, ◌++◌, map, Option, Some, None, Result, Ok, Err, if◌then◌else◌}
use Rattle.certificates.specs.Placed.{SearchSpot, SheetRows}
use Rattle.certificates.specs.Cert.{CoverTable, CoverSection, table_of, section_of, ended_at}
use Rattle.certificates.specs.WellFormed.{columns_of}
use Rattle.cert_lines.specs.declared.fault.CertFault.{CertFault}
use Rattle.cert_lines.specs.declared.fault.CertFault.TheVariants.{WrongOrder, OutOfRange}
use Rattle.cert_text.specs.declared.listing.Entry.{Entry}
use Rattle.cert_text.specs.declared.listing.Entry.TheVariants as entry
use Rattle.cert_text.specs.declared.listing.Listing.{Listing}
use Rattle.cert_lines.specs.Readers.{Left, Answer, and_then, next_form}
use Rattle.cert_text.specs.Picks as k
use Rattle.cert_text.specs.Picks.{a_table, a_section, an_ending, pick_listing}
use Rattle.cert_text.specs.Reading.{Frame, Listed, listing_fits, table_at}

pub data Step : Type 0 where
  one_table : (table : CoverTable) → Step
  one_section : (number component : ℕ) → Step
  one_ending : (spent : Option SearchSpot) → Step

abbrev pub added : Frame → (component n : ℕ) → k.Listing → Step
added fr component n (a_table m rows) = one_table (table_at n (columns_of fr.columns component) m rows)
added fr component n (a_section i) = one_section n i
added fr component n (an_ending spent) = one_ending spent

abbrev pub said : Frame → (component n : ℕ) → k.Listing → Result Step CertFault
said fr component n l = if listing_fits fr component l then Ok (added fr component n l) else Err (OutOfRange n)

abbrev pub said_table : Frame → (component n m : ℕ) → Option SheetRows → Result Step CertFault
said_table fr component n m None = Err (OutOfRange n)
said_table fr component n m (Some rows) = said fr component n (a_table m rows)

abbrev pub said_spent : Frame → (component n : ℕ) → Option SearchSpot → Result Step CertFault
said_spent fr component n None = Err (OutOfRange n)
said_spent fr component n (Some spot) = said fr component n (an_ending (Some spot))

abbrev pub picked : Frame → (component n : ℕ) → Option k.Listing → Result Step CertFault
picked fr component n None = Err (WrongOrder n)
picked fr component n (Some l) = said fr component n l

abbrev pub listing_step : Frame → (component : ℕ) → Left → Answer Step
listing_step fr component left =
    and_then (next_form fr.version left) (λ a. and_then (picked fr component left.number (pick_listing a.0)) (λ s. Ok (s, a.1)))

abbrev pub grown : List CoverSection → CoverSection → Answer Listed → Answer (List CoverSection × Option SearchSpot)
grown done section rest = and_then rest (λ b.
    Ok ((done ++ record section { tables = section.tables ++ b.0.tables } ∷ b.0.sections, b.0.spent), b.1))

-- ---- what the code holds

abbrev pub step_of : Entry → Step
step_of (entry.Cover line) = one_table (table_of line)
step_of (entry.Section number component) = one_section number component
step_of (entry.Ending ending) = one_ending (ended_at ending)

abbrev pub listing_of : Listing → List CoverSection × Option SearchSpot
listing_of l = (map section_of l.sections, ended_at l.ending)
