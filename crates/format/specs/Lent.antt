-- The page that the code writes, as a page of the definitions. Assumes nothing.
use Rattle.format.specs.declared.page.Page.{Page as LentPage}
use Rattle.format.specs.Page.{Page, page}

abbrev pub lent : LentPage → Page
lent p = page p.octets.now p.at
