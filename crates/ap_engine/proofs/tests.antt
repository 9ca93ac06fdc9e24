mod NoFiles
mod OneFile
