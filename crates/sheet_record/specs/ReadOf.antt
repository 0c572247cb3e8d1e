-- What was read of which sheet. Assumes nothing.
use Rattle.rules.specs.Sheets.{Sheet}
use Rattle.sheet_record.specs.Held.{ReadOf}
use Rattle.sheet_record.specs.declared.SheetRead.{SheetRead}

-- this was read of a sheet
abbrev pub IsReadOf : Sheet → SheetRead → Type 0
IsReadOf s read = ReadOf s read.numbers read.points.now read.start.now read.end.now
