use Rattle.mmu_map.proofs.Maps.{map_exact}
use Rattle.mmu_map.proofs.pages.Pages.map.Goals as goal

-- the page at the address of the page that was found is that page
pub returns-clause-exact : goal.returns-clause-exact
returns-clause-exact c =
    map_exact c.args.self.now c.map_in.new.self c.args.flash_page c.args.n c.in_ok-page.page
    c.address.result c.args.space c.address.ensures.exact c.in_ok-page.ensures.within
    c.in_ok-page.ensures.exact
