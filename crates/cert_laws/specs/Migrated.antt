-- The same certificate in version 2. In the text of version 2 a line `components` and a line `columns` stand before the line `sheets`, and a
-- line `covers` behind it, so that the numbers of the tables grow by 3.
--   later_table t       a table three lines later
--   later_section s     the one section of version 1: its line `covers` stands three lines behind the place of the line `sheets`
--   migrated_part p     the cover part
--   migrated c          the certificate: in version 2 it is itself
use Rattle.std.specs.Prelude.{◌+◌, ◌==◌, map, if◌then◌else◌, option_map}
use Rattle.certificates.specs.Cert.{CoverTable, CoverSection, CertCover, Cert}

abbrev pub later_table : CoverTable → CoverTable
later_table t = record { number = t.number + 3; sheets = t.sheets; columns = t.columns; cells = t.cells }

abbrev pub later_section : CoverSection → CoverSection
later_section s = record { number = s.number + 3; component = s.component; tables = map later_table s.tables }

abbrev pub migrated_part : CertCover → CertCover
migrated_part p = record {
  pairs = p.pairs;
  critical_line = p.critical_line;
  critical = p.critical;
  columns = p.columns;
  sheets = p.sheets;
  from = p.from;
  sections = map later_section p.sections;
  spent = p.spent;
}

abbrev pub in_version_two : Cert → Cert
in_version_two c = record {
  version = 2;
  modulus = c.modulus;
  space = c.space;
  chains = c.chains;
  ranks = c.ranks;
  classes = c.classes;
  products = c.products;
  cover = option_map migrated_part c.cover;
}

abbrev pub migrated : Cert → Cert
migrated c = if c.version == 1 then in_version_two c else c
