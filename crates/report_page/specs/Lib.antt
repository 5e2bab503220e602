-- text in a page
pub mod Escapes
-- the cells of tables
pub mod Cells
-- the tables
pub mod Tables
-- the picture
pub mod Picture
-- the whole page
pub mod Page
